-- What the exit status says about a fault.
use Rattle.std.proofs.Common.{◌≡◌, ◌⊎◌, ℕ, List, inl, inr, refl}
use Rattle.std.specs.Prelude.{IfSome, IsSome, ◌++◌, string_bytes}
use Rattle.program_io.specs.Reports.{AppendsReport, ReportList}
use Rattle.program_io.specs.declared.statuses.TheConstants.{DEVICE_FAULT, REFUSED}
use Rattle.command_words.specs.Faults.{ReportsUsage, reason_of, usage_report}
use Rattle.command_words.specs.Rejections.{ReportsRejection}
use Rattle.command_words.specs.declared.faults.WordFault.{WordFault}
use Rattle.command_words.specs.declared.faults.WordFault.TheVariants.{Usage, Memory}

-- a fault that is reported with the status of a rejected command line is a `Usage` fault
pub refused_by : {R X : Type 0} (fault : WordFault) (result : ℕ) → (IsSome (reason_of fault) → R)
    → (fault ≡ Memory → (result ≡ DEVICE_FAULT) × X) → result ≡ REFUSED → R
refused_by (Usage reason) result none memory is = none refl
refused_by Memory result none memory is = let wrong = (memory refl).0 in absurd (cc)

-- a fault is either reported as lack of memory or with the usage
pub reported_by : {X : Type 0} (fault : WordFault) (result : ℕ) (name whole short : List ℕ) (old new : ReportList)
    → IfSome (reason_of fault)
    (λ reason. (result ≡ REFUSED) × AppendsReport old new (usage_report name reason whole short))
    → (fault ≡ Memory → (result ≡ DEVICE_FAULT) × X)
    → (result ≡ DEVICE_FAULT) ⊎ (result ≡ REFUSED) × ReportsUsage name whole short old new
reported_by (Usage reason) result name whole short old new usage memory = inr (usage.0, (string_bytes reason, usage.1))
reported_by Memory result name whole short old new usage memory = inl (memory refl).0

-- a fault is either reported as lack of memory or as a rejection
pub rejected_by : {X : Type 0} (fault : WordFault) (result : ℕ) (manual : List ℕ) (old new : ReportList)
    → IfSome (reason_of fault) (λ text. (result ≡ REFUSED) × AppendsReport old new (text ++ manual))
    → (fault ≡ Memory → (result ≡ DEVICE_FAULT) × X)
    → (result ≡ DEVICE_FAULT) ⊎ (result ≡ REFUSED) × ReportsRejection manual old new
rejected_by (Usage text) result manual old new usage memory = inr (usage.0, (string_bytes text, usage.1))
rejected_by Memory result manual old new usage memory = inl (memory refl).0

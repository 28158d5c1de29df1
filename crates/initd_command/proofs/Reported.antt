-- What is reported by a message that could be created, or not.
use Rattle.initd_command.proofs.Words.{◌≡◌, subst, inl, inr, ℕ, List, Result, Ok, Err, IfOk, OnErr}
use Rattle.initd_command.proofs.Words.{AppendsReport, ReportList, ReportsText}
use Rattle.initd_command.specs.declared.reports.TheConstants.{NO_MEMORY}

-- either a message with this text is reported, or that there was no memory for it
pub reported_text : {T E : Type 0} (message : Result T E) (bytes : T → List ℕ) (told : List ℕ)
    (old new : ReportList)
    → IfOk message (λ text. bytes text ≡ told) → IfOk message (λ text. AppendsReport old new (bytes text))
    → OnErr message (AppendsReport old new NO_MEMORY.now) → ReportsText told old new
reported_text (Ok text) bytes told old new is part none = inl (subst (AppendsReport old new) is part)
reported_text (Err error) bytes told old new is part none = inr none

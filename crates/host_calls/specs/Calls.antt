-- A host's record of its calls, and the conditions for reporting that a call failed.
use Rattle.std.specs.Prelude.{◌≡◌, ◌<◌, ◌≤◌, ◌+◌, ◌-◌, ◌^◌, ◌⊎◌, min, ℕ, Bool, true, false, if◌then◌else◌}
use Rattle.std.specs.Prelude.{List, ◌∷◌, take, Option, Some, None, IfSome, Result, Ok, Err}
use Rattle.init_words.specs.declared.entries.Entry.{Entry}
use Rattle.init_words.specs.declared.orders.Answer.{Answer}
use Rattle.init_words.specs.declared.orders.Answer.TheVariants as answer
use Rattle.init_words.specs.Parts.{NamedText}
use Rattle.host_calls.specs.declared.calls.Call.{Call}
use Rattle.host_calls.specs.declared.calls.HostFault.{HostFault}
use Rattle.host_calls.specs.declared.calls.Reply.{Reply}
use Rattle.host_calls.specs.declared.calls.Reply.TheVariants.{Now, Later}

-- a call with its answer, regardless of the allocator of its texts, its table and its files
abbrev pub HostCall : Type 0
HostCall = Call (List ℕ) (List Entry) (List NamedText)

-- a text, or the reason why it could not be read
abbrev pub TextRead : Type 0
TextRead = Result (List ℕ) HostFault

-- the files of a table, or the reason why they could not be read
abbrev pub PartsRead : Type 0
PartsRead = Result (List NamedText) HostFault

-- if the host's record, newest call first, is complete now, then it was complete before the call, and the call was
-- added
abbrev pub AddsCall : Option (List HostCall) → Option (List HostCall) → HostCall → Type 0
AddsCall old new call = IfSome new (λ all. (before : List HostCall) × (old ≡ Some before) × (all ≡ call ∷ before))

-- the number of faults never decreases, and if a call failed, it has increased or was at its maximum
pub record FaultIsCounted (before now : ℕ) (failed : Bool) : Type 0 where
  pub later : before ≤ now
  pub cause : failed ≡ true → (before < now) ⊎ (before ≡ 2 ^ 64 - 1)

-- the number of faults after a call; it stays at its maximum once it is there
abbrev pub counted : Bool → ℕ → ℕ
counted failed faults = if failed then min (faults + 1) (2 ^ 64 - 1) else faults

-- the answer reports a fault
abbrev pub is_failed_answer : Answer → Bool
is_failed_answer answer.NotBorn = true
is_failed_answer answer.NoLook = true
is_failed_answer answer.Miss = true
is_failed_answer _ = false

-- the reply reports a fault
abbrev pub is_failed_reply : Reply → Bool
is_failed_reply (Now given) = is_failed_answer given
is_failed_reply Later = false

-- there is an answer that arrived after its call returned, and it reports a fault
abbrev pub is_failed_late : Option (List ℕ × Answer) → Bool
is_failed_late (Some late) = is_failed_answer late.1
is_failed_late None = false

-- the text that a call returned, regardless of its type
abbrev pub text_read : {T : Type 0} → (T → List ℕ) → Result T HostFault → TextRead
text_read text (Ok held) = Ok (text held)
text_read text (Err fault) = Err fault

-- the files that a call returned, regardless of their type
abbrev pub parts_read : {T : Type 0} → (T → List NamedText) → Result T HostFault → PartsRead
parts_read parts (Ok held) = Ok (parts held)
parts_read parts (Err fault) = Err fault

-- the text that a call wrote to the front of a buffer, or the fault that it returned
abbrev pub front_read : Result ℕ HostFault → List ℕ → TextRead
front_read (Ok count) buffer = Ok (take count buffer)
front_read (Err fault) buffer = Err fault

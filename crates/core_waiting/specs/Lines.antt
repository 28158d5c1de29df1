-- The messages that report what init waits for while no level is announced as settled, one per line.
use Rattle.std.specs.Prelude.{ℕ, ◌-◌, if◌then◌else◌, List, [], ◌∷◌, ◌++◌, codes, decimal, Option, Some, None, is_some}
use Rattle.std.specs.Prelude.{option_and_then}
use Rattle.core_waiting.specs.Words.{Level, Stage, Sysinit, Boot, Run, level_code, SlotState, CoreState}
use Rattle.child_table.specs.declared.children.Stop.{Stop}
use Rattle.child_table.specs.declared.children.Stop.TheVariants.{Due, Termed, Killed}
use Rattle.child_table.specs.Lists.{record_by_id}
use Rattle.core_waiting.specs.declared.rests.Awaited.{Awaited}
use Rattle.core_waiting.specs.declared.rests.WhyAwaited.{WhyAwaited}
use Rattle.core_waiting.specs.declared.rests.WhyAwaited.TheVariants.{Excluded, WaitedFor, InTheWay}
use Rattle.core_waiting.specs.Awaiting.{awaited_by}

abbrev pub level_words : Level → List ℕ
level_words level = codes "level " ++ level_code level ∷ []

abbrev pub stage_words : Option Stage → List ℕ
stage_words None = codes "startup"
stage_words (Some Sysinit) = codes "sysinit"
stage_words (Some Boot) = codes "boot"
stage_words (Some (Run level)) = level_words level

-- the beginning of each line: which level or stage is waiting
abbrev pub line_start : Option Stage → List ℕ
line_start stage = codes "initd: " ++ (stage_words stage ++ codes " is waiting for ")

-- the line for a record with an open order; empty if no order is open
abbrev pub answer_line : Option Stage → SlotState → List ℕ
answer_line stage slot =
    if is_some slot.order then line_start stage ++ (codes "an answer about " ++ (slot.id ++ codes "\n")) else []

-- the lines for all records with an open order
abbrev pub answers_text : Option Stage → List SlotState → List ℕ
answers_text stage [] = []
answers_text stage (slot ∷ slots) = answer_line stage slot ++ answers_text stage slots

-- the progress of stopping the id's child
abbrev pub stop_in : List ℕ → List SlotState → Option Stop
stop_in id slots = option_and_then (λ (slot : SlotState). slot.stop) (record_by_id id slots)

-- the text followed by the number of seconds and ` s`
abbrev pub seconds_words : List ℕ → ℕ → List ℕ
seconds_words what seconds = what ++ (decimal seconds ++ codes " s")

-- the message about a child that was sent TERM, with the seconds until it is sent KILL
abbrev pub termed_words : ℕ → ℕ → ℕ → List ℕ
termed_words grace now time =
    seconds_words (codes "it is being stopped; TERM was sent, KILL follows in ") (grace - (now - time))

-- the message about the progress of stopping a child
abbrev pub stop_words : ℕ → ℕ → Option Stop → List ℕ
stop_words grace now (Some (Termed time)) = termed_words grace now time
stop_words grace now (Some (Killed time)) = codes "it is being stopped; KILL was sent"
stop_words grace now (Some Due) = codes "it must be stopped, but no signal has reached it yet"
stop_words grace now None = codes "it must be stopped, but no signal has reached it yet"

-- the text followed by the child's number in parentheses
abbrev pub ended_words : List ℕ → ℕ → List ℕ
ended_words what number = what ++ (codes " (" ++ (decimal number ++ codes ")"))

-- the message that gives this reason for waiting for the child with this id and number
abbrev pub why_of : CoreState → List ℕ → ℕ → WhyAwaited → List ℕ
why_of core id number Excluded = stop_words core.fields.grace core.fields.time (stop_in id core.slots)
why_of core id number WaitedFor = ended_words (codes "init waits until it exits") number
why_of core id number InTheWay = ended_words (codes "its earlier child must exit first") number

-- the message that gives the reason why init waits for the child
abbrev pub why_words : CoreState → Awaited → List ℕ
why_words core awaited = why_of core awaited.id awaited.number awaited.why

-- the line for a child that init waits for
abbrev pub end_line : CoreState → Awaited → List ℕ
end_line core awaited =
    line_start core.fields.stage ++ (awaited.id ++ (codes ": " ++ (why_words core awaited ++ codes "\n")))

-- the lines for all children that init waits for
abbrev pub ends_text : CoreState → List Awaited → List ℕ
ends_text core [] = []
ends_text core (awaited ∷ others) = end_line core awaited ++ ends_text core others

-- a line for each answer that init waits for, then a line for each child; no lines if a runlevel is announced settled
abbrev pub waiting_text : CoreState → List ℕ
waiting_text core =
    if core.fields.announced then [] else answers_text core.fields.stage core.slots ++ ends_text core (awaited_by core)

use Rattle.reexec_state.proofs.Words.{◌≡◌, drop, list_all, has_ranged_words}
use Rattle.reexec_state.proofs.handing.law_of_records.Given as goal

-- the result is that for the remaining records
abbrev pub invariant-loop-slot : goal.invariant-loop-slot
invariant-loop-slot l = list_all has_ranged_words l.slots ≡ list_all has_ranged_words (drop l.slot-index l.slots)

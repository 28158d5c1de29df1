-- The verdict of a judge on the happenings that a log has taken.
use Rattle.std.specs.Prelude.{◌≡◌, Bool, if◌then◌else◌, List, length, Some, None, ⊤}
use Rattle.trace_events.specs.Event.{Event}
use Rattle.trace_events.specs.Lawful.{first_breach}
use Rattle.trace_check.specs.Faults.{fault_at}
use Rattle.trace_check.specs.Judging.{Judged, Judging}
use Rattle.trace_log_wrappers.specs.declared.judgements.Judgement.{Judgement}
use Rattle.trace_log_wrappers.specs.declared.judgements.Judgement.TheVariants.{Lawful, Breach, Unjudged}

-- the verdict on these happenings, newest first, is right: they break no law and there are `count` of them, or this is
-- their first breach
abbrev pub IsJudgementOf : Judgement → List Event → Type 0
IsJudgementOf (Lawful count) past = (first_breach past ≡ None) × (count ≡ length past)
IsJudgementOf (Breach position law) past = first_breach past ≡ Some (fault_at position law)
IsJudgementOf Unjudged past = ⊤

-- the verdict on these happenings is right, and if no law is broken, the judge has judged exactly these happenings
abbrev pub JudgedSoFar : Judging → Judgement → List Event → Type 0
JudgedSoFar judge (Lawful count) past = Judged judge past × (count ≡ length past)
JudgedSoFar judge (Breach position law) past = first_breach past ≡ Some (fault_at position law)
JudgedSoFar judge Unjudged past = ⊤

-- the verdict before the first happening, depending on whether a judge was requested
abbrev pub found_first : Bool → Judgement
found_first asked = if asked then Lawful 0 else Unjudged

-- Hand-overs of init's state in a run: the state that init keeps, its saved form, and which hand-overs are possible.
use Rattle.std.specs.Prelude.{ℕ, Bool, true, ◌&&◌, ◌+◌, ◌-◌, ◌^◌, if◌then◌else◌, nat_le, nat_lt, List, [], ◌∷◌, ◌++◌}
use Rattle.std.specs.Prelude.{get_or, length, take, Option, Some, None}
use Rattle.initctl_frame.specs.declared.requests.HeardRequest.TheVariants as got
use Rattle.simulator.specs.Words.{Enter, Got, Goal, Event, stage_of, last_statuses_of, core_read, state_of, CoreState}
use Rattle.simulator.specs.Words.{wished}
use Rattle.simulator.specs.Words.{after_handed, after_handed_on}
use Rattle.trace_events.specs.declared.happenings.Happening.TheVariants.{Handed}
use Rattle.trace_events.specs.declared.happenings.Handed.{Handed as HandOver}
use Rattle.trace_events.specs.declared.happenings.Handed.TheVariants as handed
use Rattle.trace_events.specs.Wishes.{in_run, level_wish}
use Rattle.core_text.specs.Lines.{state_text}
use Rattle.simulator.specs.declared.objections.Objection.{Objection}
use Rattle.simulator.specs.declared.objections.Objection.TheVariants as objection
use Rattle.simulator.specs.Objections.{unless}

-- the number of times that the state was saved so far: once for each hand-over that did not fail
abbrev pub made_in : List Event → ℕ
made_in [] = 0
made_in (Handed handed.Failed ∷ past) = made_in past
made_in (Handed how ∷ past) = made_in past + 1
made_in (_ ∷ past) = made_in past

-- the goal in the state that init keeps: the last request for a level, not counting a request still pending in a
-- runlevel; the initial goal if there is none
abbrev pub kept_goal : Goal → List Event → Goal
kept_goal opening [] = opening
kept_goal opening (Enter stage grace ∷ past) = wished (level_wish past) (kept_goal opening past)
kept_goal opening (Got (got.Level l s) ∷ past) =
    if in_run (stage_of past) then kept_goal opening past else record { level = l; grace = s }
kept_goal opening (_ ∷ past) = kept_goal opening past

-- the state that init keeps after the trace
abbrev pub kept_at : Goal → List Event → CoreState
kept_at opening past = core_read (last_statuses_of past) past (kept_goal opening past) (made_in past)

-- the saved state that init hands over, which has the next generation
abbrev pub handed_over_text : CoreState → List ℕ
handed_over_text core = state_text (state_of (after_handed_on core))

-- the saved state that a hand-over after the trace produces
abbrev pub text_at : Goal → List Event → List ℕ
text_at opening past = handed_over_text (kept_at opening past)

-- the number of the next generation fits in 64 bits
abbrev pub has_next : ℕ → Bool
has_next generation = nat_lt (generation + 1) (2 ^ 64)

-- this generation is that of one of the `made` saved states so far
abbrev pub is_made : ℕ → ℕ → Bool
is_made generation made = nat_le 1 generation && nat_le generation made

-- The hand-over is possible. There must be a next generation; a text that is cut must be longer than the bytes that
-- arrive; an older text must have been saved before. A hand-over that failed saves no text and is always possible.
abbrev pub may_be_handed : Goal → HandOver → List Event → Bool
may_be_handed opening handed.Failed past = true
may_be_handed opening handed.Whole past = has_next (made_in past)
may_be_handed opening (handed.Cut bytes) past = has_next (made_in past) && nat_lt bytes (length (text_at opening past))
may_be_handed opening (handed.Older generation) past = has_next (made_in past) && is_made generation (made_in past)

-- the happening is not a hand-over, or the hand-over is possible
abbrev pub may_hand : Goal → Event → List Event → Bool
may_hand opening (Handed how) past = may_be_handed opening how past
may_hand opening _ past = true

-- each hand-over in the trace was possible
abbrev pub are_handed : Goal → List Event → Bool
are_handed opening [] = true
are_handed opening (happening ∷ past) = may_hand opening happening past && are_handed opening past

-- the objection, if there is a next generation; otherwise the objection `Worn`
abbrev pub unless_worn : ℕ → Option Objection → Option Objection
unless_worn generation other = if has_next generation then other else Some objection.Worn

-- the objection to a hand-over, given the number of states saved so far and the length of the next one; none if it is
-- possible
abbrev pub objection_handed : ℕ → ℕ → HandOver → Option Objection
objection_handed made size handed.Failed = None
objection_handed made size handed.Whole = unless_worn made None
objection_handed made size (handed.Cut bytes) =
    unless_worn made (unless (nat_lt bytes size) (objection.NotCut bytes))
objection_handed made size (handed.Older generation) =
    unless_worn made (unless (is_made generation made) (objection.NoneOlder generation))

-- the state that init keeps after a hand-over, which has the next generation unless the hand-over failed
abbrev pub after_hand : HandOver → CoreState → CoreState
after_hand handed.Failed core = after_handed core
after_hand how core = after_handed_on core

-- the text that reaches the next init: the saved state, a prefix of it, or an older one; none if the hand-over failed
abbrev pub comes_back : HandOver → List ℕ → List (List ℕ) → Option (List ℕ)
comes_back handed.Whole text made = Some text
comes_back (handed.Cut bytes) text made = Some (take bytes text)
comes_back (handed.Older generation) text made = Some (get_or made (generation - 1) [])
comes_back handed.Failed text made = None

-- the core that the next init takes over: the same core if its text came back whole, otherwise none
abbrev pub taken_of : HandOver → CoreState → Option CoreState
taken_of handed.Whole core = Some core
taken_of _ core = None

-- the saved states after a hand-over: one more than before, unless the hand-over failed
abbrev pub kept_texts : HandOver → CoreState → List (List ℕ) → List (List ℕ)
kept_texts handed.Failed core made = made
kept_texts how core made = made ++ handed_over_text core ∷ []

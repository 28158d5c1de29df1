-- The spell of an excluded child: the time since it became excluded, or since its birth if it always was.
-- The signals that init learns of in the spell decide which is next: TERM, then KILL after the grace period (init(8)).
use Rattle.std.specs.Prelude.{ℕ, Bool, false, not, ◌&&◌, ◌||◌, ◌+◌, if◌then◌else◌, nat_le, List, [], ◌∷◌, ◌++◌, map}
use Rattle.std.specs.Prelude.{Option, Some, None}
use Rattle.trace_events.specs.Words.{OrderKind, Term, Kill, same_id}
use Rattle.trace_events.specs.declared.happenings.Happening.TheVariants.{Birth, Hit, Miss, Told, Nudge}
use Rattle.trace_events.specs.Event.{Event}
use Rattle.trace_events.specs.Past.{Child, open_of, grace_of, time_of}
use Rattle.trace_events.specs.Wanted.{is_excluded, is_order}

-- a signal that was sent: the order that it answered, and the time when init learned of it
pub record Signal : Type 0 where
  pub order : Option OrderKind
  pub time : ℕ

-- the orders for which signals were sent since the last birth of the id, if init has not learned of the signals yet
abbrev pub untold_hits : List ℕ → List Event → List (Option OrderKind)
untold_hits id [] = []
untold_hits id (Birth i n ∷ past) = if same_id id i then [] else untold_hits id past
untold_hits id (Told i ∷ past) = if same_id id i then [] else untold_hits id past
untold_hits id (Hit i ∷ past) = if same_id id i then open_of id past ∷ untold_hits id past else untold_hits id past
untold_hits id (_ ∷ past) = untold_hits id past

-- since the last birth of the id, there was a Miss for the id that init has not learned of yet
abbrev pub has_untold_miss : List ℕ → List Event → Bool
has_untold_miss id [] = false
has_untold_miss id (Birth i n ∷ past) = not (same_id id i) && has_untold_miss id past
has_untold_miss id (Told i ∷ past) = not (same_id id i) && has_untold_miss id past
has_untold_miss id (Miss i ∷ past) = same_id id i || has_untold_miss id past
has_untold_miss id (_ ∷ past) = has_untold_miss id past

-- a Hit that answered this order, and that init learned of at this time
abbrev pub told_at : ℕ → Option OrderKind → Signal
told_at time order = record { order = order; time = time }

-- the Hits of the child that init learns of with this happening
abbrev pub tells_hits : Child → Event → List Event → List Signal
tells_hits child (Told i) past =
    if same_id child.id i then map (told_at (time_of past)) (untold_hits child.id past) else []
tells_hits child _ past = []

abbrev pub is_birth_of : List ℕ → Event → Bool
is_birth_of id (Birth i n) = same_id id i
is_birth_of id _ = false

-- the happening belongs to the spell of the child: the child is excluded after it, and it is not the child's birth
-- (if two unreaped children have the same id, as in no sound trace, only the younger one's birth counts)
abbrev pub in_spell : Child → Event → List Event → Bool
in_spell child happening past = is_excluded (happening ∷ past) child && not (is_birth_of child.id happening)

-- the Hits of the child that init learned of in its spell, newest first
abbrev pub spell_hits : Child → List Event → List Signal
spell_hits child [] = []
spell_hits child (happening ∷ past) =
    if in_spell child happening past then tells_hits child happening past ++ spell_hits child past else []

-- with this happening, init learns that a signal could not be sent to the child
abbrev pub tells_miss : Child → Event → List Event → Bool
tells_miss child (Told i) past = same_id child.id i && has_untold_miss child.id past
tells_miss child _ past = false

-- init learned in the spell of the child that a signal could not be sent to it, and no round has begun since
abbrev pub is_missed : Child → List Event → Bool
is_missed child [] = false
is_missed child (Nudge ∷ past) = false
is_missed child (happening ∷ past) =
    in_spell child happening past && (tells_miss child happening past || is_missed child past)

-- the signal was a TERM, and init learned of it at least the grace period ago
abbrev pub is_grace_over : ℕ → ℕ → Signal → Bool
is_grace_over grace now signal = is_order Term signal.order && nat_le (signal.time + grace) now

-- the signal that is due to an excluded child after these Hits: TERM if there are none; KILL if there is exactly one, a
-- TERM of which init learned at least the grace period ago
abbrev pub stop_by : ℕ → ℕ → List Signal → Option OrderKind
stop_by grace now [] = Some Term
stop_by grace now (signal ∷ []) = if is_grace_over grace now signal then Some Kill else None
stop_by grace now _ = None

-- the signal that is due to the child; none if it is not excluded, or if a signal to it failed in this round
abbrev pub stop_due : Child → List Event → Option OrderKind
stop_due child past =
    if is_excluded past child && not (is_missed child past) then
    stop_by (grace_of past) (time_of past) (spell_hits child past)
    else None

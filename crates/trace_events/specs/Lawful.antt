-- The seven laws of a trace: which law a happening breaks, given the trace before it, and which traces are lawful.
use Rattle.std.specs.Prelude.{ℕ, Bool, true, false, not, ◌&&◌, ◌||◌, if◌then◌else◌, List, [], ◌∷◌, length, Option, Some}
use Rattle.std.specs.Prelude.{None, is_none}
use Rattle.std.specs.Option.{option_map_or}
use Rattle.std.specs.List.{list_any}
use Rattle.trace_events.specs.Words.{Entry, Start, Term, Kill, entry_of, act_of, is_limited}
use Rattle.trace_events.specs.declared.happenings.Happening.TheVariants.{Asked, Hold, Settle, Birth}
use Rattle.trace_events.specs.Event.{Event}
use Rattle.trace_events.specs.Past.{table_of, grace_of, time_of, is_child_of, has_child, unreaped_children}
use Rattle.trace_events.specs.Wanted.{starts_now, is_owed_before, is_excluded}
use Rattle.trace_events.specs.Spells.{is_grace_over, spell_hits}
use Rattle.trace_events.specs.Timing.{is_held, is_full}
use Rattle.trace_events.specs.Due.{is_settled}

-- 1: at a Birth, the id has no unreaped child
abbrev pub has_no_unreaped_child : List ℕ → List Event → Bool
has_no_unreaped_child id past = not (has_child id (unreaped_children past))

-- 2: at a Birth, the id has an entry in the table, which starts in the stage in force
abbrev pub has_startable_entry : List ℕ → List Event → Bool
has_startable_entry id past = option_map_or (λ (e : Entry). starts_now e past) (entry_of id (table_of past)) false

-- 3: at a Birth, no entry before the id's entry is owed
abbrev pub is_in_turn : List ℕ → List Event → Bool
is_in_turn id past = not (is_owed_before id past)

-- 4: at a Birth, no unreaped child is excluded
abbrev pub no_unreaped_is_excluded : List Event → Bool
no_unreaped_is_excluded past = not (list_any (is_excluded past) (unreaped_children past))

-- 5: at a Settle, the level is settled, judged by the unreaped children (`is_settled`)

-- 6: If the respawn limit applies to an entry, init starts it only if it is not held and its window is not full, and
-- holds it only if it is not held yet and its window is full.
-- The limit applies to the entry of this id.
abbrev pub is_limited_id : List ℕ → List Event → Bool
is_limited_id id past = option_map_or is_limited (act_of id (table_of past)) false

-- 6: the respawn limit allows a Start of the id now
abbrev pub is_free : List ℕ → List Event → Bool
is_free id past = not (is_limited_id id past) || not (is_held id past) && not (is_full id past)

-- 6: the respawn limit allows a Hold of the id now
abbrev pub is_due_hold : List ℕ → List Event → Bool
is_due_hold id past = is_limited_id id past && not (is_held id past) && is_full id past

-- 7: at a Term, the id has an excluded unreaped child
abbrev pub may_term : List ℕ → List Event → Bool
may_term id past = list_any (λ child. is_child_of id child && is_excluded past child) (unreaped_children past)

-- 7: at a Kill, the id has an excluded unreaped child that was sent a TERM, and init learned of the TERM in the child's
-- spell, at least the grace period ago
abbrev pub may_kill : List ℕ → List Event → Bool
may_kill id past =
    list_any
    (λ child. is_child_of id child && is_excluded past child
    && list_any (is_grace_over (grace_of past) (time_of past)) (spell_hits child past))
    (unreaped_children past)

-- the number of the lowest-numbered law that the happening breaks, if any
abbrev pub broken : Event → List Event → Option ℕ
broken (Birth id number) past =
    if not (has_no_unreaped_child id past) then Some 1 else if not (has_startable_entry id past) then Some 2
    else if not (is_in_turn id past) then Some 3 else if not (no_unreaped_is_excluded past) then Some 4 else None
broken (Settle level) past = if not (is_settled level (unreaped_children past) past) then Some 5 else None
broken (Asked id Start) past = if not (is_free id past) then Some 6 else None
broken (Hold id) past = if not (is_due_hold id past) then Some 6 else None
broken (Asked id Term) past = if not (may_term id past) then Some 7 else None
broken (Asked id Kill) past = if not (may_kill id past) then Some 7 else None
broken _ past = None

-- a lawful trace: none of its happenings breaks a law
abbrev pub is_lawful : List Event → Bool
is_lawful [] = true
is_lawful (happening ∷ past) = is_none (broken happening past) && is_lawful past

-- a breach: the position of the happening in the trace, counted from 0, and the lowest-numbered law that it breaks
pub record Fault : Type 0 where
  pub position : ℕ
  pub law : ℕ

-- the breach by the happening at this position, if it breaks a law
abbrev pub breach_at : ℕ → Option ℕ → Option Fault
breach_at position None = None
breach_at position (Some law) = Some (record { position = position; law = law })

-- the earlier of two breaches: the first if there is one, otherwise the second
abbrev pub earlier : Option Fault → Option Fault → Option Fault
earlier None later = later
earlier (Some fault) later = Some fault

-- the first breach in a trace
abbrev pub first_breach : List Event → Option Fault
first_breach [] = None
first_breach (happening ∷ past) = earlier (first_breach past) (breach_at (length past) (broken happening past))

-- The warning before a KILL: a TERM was sent to the child, init learned of the TERM in the child's spell, and the grace
-- period has passed since then.
use Rattle.std.specs.Prelude.{◌≡◌, ◌≤◌, ◌+◌, ℕ, Bool, true, IsTrue, ◌&&◌, List, [], ◌∷◌, ◌++◌}
use Rattle.std.specs.List.{list_any}
use Rattle.trace_laws.specs.Words.{Term, Told, Event, Child, grace_of, time_of, is_child_of, is_order, is_unreaped}
use Rattle.trace_events.specs.Spells.{untold_hits, in_spell}

-- all happenings of the stretch belong to the spell of the child
abbrev pub stays_excluded : Child → List Event → List Event → Bool
stays_excluded child [] before = true
stays_excluded child (happening ∷ stretch) before =
    in_spell child happening (stretch ++ before) && stays_excluded child stretch before

-- an unreaped child of the id was sent a TERM, and init learned of the TERM in the child's spell, at least the grace
-- period ago
pub record WasTermedBefore (id : List ℕ) (past : List Event) : Type 0 where
  pub child : Child
  pub own : IsTrue (is_child_of id child)
  pub there : IsTrue (is_unreaped id child.number past)
  pub since : List Event
  pub before : List Event
  pub told : past ≡ since ++ Told id ∷ before
  pub termed : IsTrue (list_any (is_order Term) (untold_hits id before))
  pub excluded : IsTrue (stays_excluded child (since ++ Told id ∷ []) before)
  pub late : time_of before + grace_of past ≤ time_of past

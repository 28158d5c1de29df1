-- Three bounds that hold over whole runs.
use Rattle.std.specs.Prelude.{ℕ, Bool, true, not, ◌&&◌, ◌||◌, ◌+◌, ◌-◌, ◌==◌, if◌then◌else◌, nat_le, List, [], ◌∷◌}
use Rattle.std.specs.Prelude.{filter, length, drop}
use Rattle.std.specs.List.{list_any, list_all}
use Rattle.trace_events.specs.Words.{HOLD, STARTS, WINDOW, Start, Kill, same_id}
use Rattle.trace_events.specs.declared.happenings.Happening.TheVariants.{Asked, Hit}
use Rattle.trace_events.specs.Event.{Event}
use Rattle.trace_events.specs.Past.{time_of, Child, is_child_of, is_child, unreaped_children, known_children}
use Rattle.trace_events.specs.Wanted.{is_order, is_excluded}
use Rattle.trace_events.specs.Spells.{Signal, spell_hits}
use Rattle.trace_events.specs.Timing.{start_times, hold_times}
use Rattle.trace_events.specs.Lawful.{is_limited_id}

-- the tenth time in the list and all times that follow it are at least two minutes before `now`
abbrev pub is_spaced : ℕ → List ℕ → Bool
is_spaced now times = list_all (λ started. nat_le (started + WINDOW) now) (drop (STARTS - 1) times)

-- 1: when a Start is ordered for an entry that the respawn limit applies to, the tenth-last Start of the id and all
-- earlier ones were at least two minutes ago, and all Holds of the id were at least five minutes ago; only Starts and
-- Holds since the last Enter or NewTable count
abbrev pub obeys_respawn_limit : Event → List Event → Bool
obeys_respawn_limit (Asked id Start) past = not (is_limited_id id past)
    || is_spaced (time_of past) (start_times id past)
    && list_all (λ began. nat_le (began + HOLD) (time_of past)) (hold_times id past)
obeys_respawn_limit _ past = true

-- the children of the id that init knew of when it gave the last order for the id
abbrev pub targets : List ℕ → List Event → List Child
targets id [] = []
targets id (Asked i ask ∷ past) = if same_id id i then filter (is_child_of id) (known_children past)
    else targets id past
targets id (_ ∷ past) = targets id past

-- 2: at a Hit, init knew of at least one child of the id when it gave the order, and all of those children are still
-- unreaped and excluded
abbrev pub hits_ordered_child : Event → List Event → Bool
hits_ordered_child (Hit id) past =
    not (length (targets id past) == 0)
    && list_all (λ child. is_excluded past child && list_any (is_child id child.number) (unreaped_children past))
    (targets id past)
hits_ordered_child _ past = true

-- the KILLs sent to the child of which init learned in the child's spell
abbrev pub spell_kills : Child → List Event → List Signal
spell_kills child past = filter (λ (signal : Signal). is_order Kill signal.order) (spell_hits child past)

-- 3: in the spell of each unreaped child, init learns of at most one KILL sent to it
abbrev pub at_most_one_kill : List Event → Bool
at_most_one_kill past = list_all (λ child. nat_le (length (spell_kills child past)) 1) (unreaped_children past)

-- Undisturbed rounds, other rounds between them, and the number of undisturbed rounds after which a level is settled.
use Rattle.std.specs.Prelude.{ℕ, Bool, true, false, not, ◌&&◌, ◌||◌, ◌==◌, ◌+◌, ◌-◌, ◌++◌, IsTrue, if◌then◌else◌}
use Rattle.std.specs.Prelude.{nat_le, List, [], ◌∷◌, filter, length, max, Option, Some}
use Rattle.std.specs.List.{list_any, list_all}
use Rattle.core_waiting.specs.Words.{same_id, Entry, Level, Stage, wanted_by, starts_of, waited_of, same_level}
use Rattle.core_waiting.specs.Words.{NewTable, Reaped, Still, NoLook, Nudge, Got, Goal, Event, Child, is_idle, table_of}
use Rattle.core_waiting.specs.Words.{stage_of, grace_of, time_of, kept_children, is_excluded, spell_hits, is_missed}
use Rattle.core_waiting.specs.Words.{goal_of, are_calls_pending}
use Rattle.init_words.specs.declared.levels.Level.TheVariants.{S}
use Rattle.init_words.specs.declared.stages.Stage.TheVariants as stage
use Rattle.initctl_frame.specs.declared.requests.HeardRequest.TheVariants as got
use Rattle.core_waiting.specs.Rest.{AtRest, is_awaited, awaited_children, is_empty, is_gone, count_wanted_waits}
use Rattle.core_waiting.specs.Rest.{after_rounds}

-- for an excluded child, the number of stop signals still to come (out of two), as far as init has learned; 0 for a
-- child that is not excluded
abbrev pub signals_to_come : List Event → Child → ℕ
signals_to_come past child = if is_excluded past child then 2 - length (spell_hits child past) else 0

-- one of the child's two stop signals was sent, as far as init has learned, so its KILL is still to come
abbrev pub has_kill_to_come : List Event → Child → Bool
has_kill_to_come past child = signals_to_come past child == 1

-- init waits for the child, and no signal to it is still to come, so the child itself has to end
abbrev pub has_to_end : List Event → Child → Bool
has_to_end past child = is_awaited past child && signals_to_come past child == 0

-- the happening is a look that finds the id's child ended
abbrev pub is_end_seen : List ℕ → Event → Bool
is_end_seen id (Reaped i n status) = same_id id i
is_end_seen id _ = false

-- the happening is a failed look at the id's child, or one that finds the child still running
abbrev pub is_vain_look : List ℕ → Event → Bool
is_vain_look id (Still i) = same_id id i
is_vain_look id (NoLook i) = same_id id i
is_vain_look id _ = false

-- in the round, a look finds that the id's child has ended, or no look at it fails or finds it still running
abbrev pub is_found_ended : List ℕ → List Event → Bool
is_found_ended id round = list_any (is_end_seen id) round || not (list_any (is_vain_look id) round)

-- the happening begins a round
abbrev pub is_nudge : Event → Bool
is_nudge Nudge = true
is_nudge _ = false

-- the stretch has no request and no new table; a `got nothing` does not count as a request
abbrev pub has_no_request : List Event → Bool
has_no_request [] = true
has_no_request (Got (got.Nothing cause) ∷ stretch) = has_no_request stretch
has_no_request (Got request ∷ stretch) = false
has_no_request (NewTable table ∷ stretch) = false
has_no_request (happening ∷ stretch) = has_no_request stretch

-- in the round, the clock advances by the grace period, or each child whose KILL was still to come disappears
abbrev pub makes_kills_due : List Event → List Event → Bool
makes_kills_due round past =
    nat_le (time_of past + grace_of past) (time_of (round ++ past))
    || list_all (is_gone round past) (filter (has_kill_to_come past) (kept_children past))

-- The round, which follows a rest, is undisturbed. It has no request and no new table, and it has a `nudge`. The clock
-- advances by the grace period, unless each child whose KILL was still to come is gone. For each child that had to end,
-- a look finds that it has ended. At the end, no signal to a child has failed since the last `nudge`.
abbrev pub is_undisturbed : List Event → List Event → Bool
is_undisturbed round past = has_no_request round && list_any is_nudge round
    && makes_kills_due round past
    && list_all (λ child. is_found_ended child.id round) (filter (has_to_end past) (kept_children past))
    && list_all (λ child. not (is_missed child (round ++ past))) (kept_children (round ++ past))

-- the list, newest round first, begins at a rest with no order open, and each round ends at such a rest and has no
-- request and no new table; anything else may happen in the rounds
abbrev pub AreRoundsWithoutRequests : Goal → List (List Event) → List Event → Type 0
AreRoundsWithoutRequests goal [] past = AtRest goal past × IsTrue (is_idle past)
AreRoundsWithoutRequests goal (round ∷ earlier) past =
    AreRoundsWithoutRequests goal earlier past × IsTrue (has_no_request round)
    × AtRest goal (round ++ after_rounds earlier past) × IsTrue (is_idle (round ++ after_rounds earlier past))

-- the number of undisturbed rounds in the list
abbrev pub undisturbed_among : List (List Event) → List Event → ℕ
undisturbed_among [] past = 0
undisturbed_among (round ∷ earlier) past =
    (if is_undisturbed round (after_rounds earlier past) then 1 else 0) + undisturbed_among earlier past

-- the greatest value of a function over the children
abbrev pub greatest : (Child → ℕ) → List Child → ℕ
greatest of_child [] = 0
greatest of_child (child ∷ children) = max (of_child child) (greatest of_child children)

-- the stages that init has yet to enter on its way to the level
abbrev pub stages_ahead : Level → Option Stage → List Stage
stages_ahead level (Some stage.Sysinit) =
    if same_level level S then stage.Run S ∷ [] else stage.Boot ∷ stage.Run level ∷ []
stages_ahead level (Some stage.Boot) = stage.Run level ∷ []
stages_ahead level _ = []

-- the level that init is heading for: the level in force, or else the given level
abbrev pub destination : Level → Option Stage → Level
destination level (Some (stage.Run now)) = now
destination level _ = level

-- init will wait for the entry when the stage begins; `news` is true if a power event or letter is pending, which may
-- then call the entry
abbrev pub is_ahead : Bool → Stage → Entry → Bool
is_ahead news stage e = waited_of e && (starts_of e stage && wanted_by e.act true true news)

-- the number of entries that init will wait for in these stages
abbrev pub waits_ahead : Bool → List Entry → List Stage → ℕ
waits_ahead news table [] = 0
waits_ahead news table (stage ∷ stages) = length (filter (is_ahead news stage) table) + waits_ahead news table stages

-- the number of entries that init will wait for before the level is settled, including those that are wanted now
abbrev pub waits_to_come : Goal → List Event → ℕ
waits_to_come goal past =
    waits_ahead (are_calls_pending past) (table_of past) (stages_ahead (goal_of goal past).level (stage_of past))
    + count_wanted_waits past

-- The number of undisturbed rounds after which the level is settled: one for each entry that init will wait for, one if
-- init waits for a child, and one for each signal still to come to the child with the most signals to come.
abbrev pub rounds_to_come : Goal → List Event → ℕ
rounds_to_come goal past =
    waits_to_come goal past + (if is_empty (awaited_children past) then 0 else 1)
    + greatest (signals_to_come past) (kept_children past)

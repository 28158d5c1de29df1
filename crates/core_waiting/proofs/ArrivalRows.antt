-- Worked examples of rounds, checked by computation (`refl`): undisturbed rounds, with other rounds between them, at
-- the default grace and pauses; and rounds that lack one of the conditions, after which no fewer rounds are to come.
use Rattle.core_waiting.proofs.Words.{◌≡◌, refl, ℕ, Bool, true, false, not, List, [], ◌∷◌, ◌++◌, codes, filter}
use Rattle.core_waiting.proofs.Words.{list_any, list_all, Entry, At, Start, Look, Term, Kill, Exit, NewTable, Enter}
use Rattle.core_waiting.proofs.Words.{Asked, Birth, Death, Reaped, Still, Hit, Miss, Told, Clock, Nudge, NotRead, Got}
use Rattle.core_waiting.proofs.Words.{Step, Event, is_idle, kept_children, is_missed, due, is_sound, is_level_announced}
use Rattle.core_waiting.proofs.Words.{after_rounds, has_to_end, is_found_ended, is_nudge, has_no_request}
use Rattle.core_waiting.proofs.Words.{makes_kills_due}
use Rattle.core_waiting.proofs.Words.{AreRoundsWithoutRequests, undisturbed_among, waits_to_come, rounds_to_come}
use Rattle.init_words.specs.declared.actions.Act.TheVariants as act
use Rattle.init_words.specs.declared.levels.Level.TheVariants as level
use Rattle.init_words.specs.declared.stages.Stage.TheVariants as stage
use Rattle.init_words.specs.declared.orders.PowerKind.TheVariants as power
use Rattle.initctl_frame.specs.declared.requests.HeardRequest.TheVariants as got
use Rattle.trace_events.specs.declared.happenings.Happening.TheVariants.{Power, Settle}
use Rattle.core_waiting.proofs.Rows.{entry, opening, started, entered, goes_to, in_its_way}

-- an order, its act, and its `told`
abbrev sent : List ℕ → List Event
sent id = Told id ∷ Hit id ∷ Asked id Term ∷ []

abbrev killed : List ℕ → List Event
killed id = Told id ∷ Hit id ∷ Asked id Kill ∷ []

abbrev missed : List ℕ → List Event
missed id = Told id ∷ Miss id ∷ Asked id Term ∷ []

abbrev lives : List ℕ → List Event
lives id = Told id ∷ Still id ∷ Asked id Look ∷ []

abbrev ends : List ℕ → ℕ → List Event
ends id n = Told id ∷ Reaped id n (Exit 0) ∷ Death n ∷ Asked id Look ∷ []

-- the whole way up with a sysinit, a bootwait, a wait and a respawn entry, from the rest at which the first one runs
abbrev up_table : List Entry
up_table = (entry (codes "s") [] act.Sysinit) ∷ (entry (codes "b") [] act.Bootwait)
    ∷ (entry (codes "w") (At level.L3 ∷ []) act.Wait) ∷ (entry (codes "r") (At level.L3 ∷ []) act.Respawn) ∷ []

abbrev up : List Event
up = started (codes "s") 7 ++ Enter stage.Sysinit 5 ∷ NewTable up_table ∷ []

abbrev up_first : List Event
up_first = started (codes "b") 8 ++ Enter stage.Boot 5 ∷ ends (codes "s") 7 ++ Nudge ∷ Clock 5 ∷ []

abbrev up_second : List Event
up_second = started (codes "w") 9 ++ Enter (stage.Run level.L3) 5 ∷ ends (codes "b") 8 ++ Nudge ∷ Clock 10 ∷ []

-- a wait entry that is alive at two looks and found ended by the third, all in one round
abbrev up_third : List Event
up_third = Settle level.L3 ∷ started (codes "r") 6 ++ ends (codes "w") 9 ++ Nudge ∷ lives (codes "w") ++ Nudge
    ∷ lives (codes "w") ++ Nudge ∷ Clock 15 ∷ []

up-is_sound : is_sound (opening level.L3) (after_rounds (up_third ∷ up_second ∷ up_first ∷ []) up) ≡ true
up-is_sound = refl

up-unasked : AreRoundsWithoutRequests (opening level.L3) (up_third ∷ up_second ∷ up_first ∷ []) up
up-unasked = ((((refl, refl), refl, refl, refl), refl, refl, refl), refl, refl, refl)

up-undisturbed : undisturbed_among (up_third ∷ up_second ∷ up_first ∷ []) up ≡ 3
up-undisturbed = refl

up-waits : waits_to_come (opening level.L3) up ≡ 2
up-waits = refl

up-rounds : rounds_to_come (opening level.L3) up ≡ 3
up-rounds = refl

up_second-told : is_level_announced (after_rounds (up_second ∷ up_first ∷ []) up) ≡ false
up_second-told = refl

up_third-told : is_level_announced (after_rounds (up_third ∷ up_second ∷ up_first ∷ []) up) ≡ true
up_third-told = refl

-- three more rounds than entries to come: a signal to the child of the last level failed, and the child ignores the
-- first signal
abbrev last_table : List Entry
last_table = (entry (codes "r") (At level.L3 ∷ []) act.Respawn) ∷ []

abbrev last_level : List Event
last_level =
    missed (codes "r") ++ goes_to level.L2 ++ Settle level.L3 ∷ started (codes "r") 7 ++ entered level.L3 last_table

abbrev last_first : List Event
last_first = lives (codes "r") ++ sent (codes "r") ++ Nudge ∷ Clock 5 ∷ []

abbrev last_second : List Event
last_second = killed (codes "r") ++ Clock 10 ∷ lives (codes "r") ++ Nudge ∷ []

abbrev last_third : List Event
last_third = Settle level.L2 ∷ ends (codes "r") 7 ++ Nudge ∷ Clock 15 ∷ []

last-is_sound : is_sound (opening level.L3) (after_rounds (last_third ∷ last_second ∷ last_first ∷ []) last_level)
    ≡ true
last-is_sound = refl

last-unasked : AreRoundsWithoutRequests (opening level.L3) (last_third ∷ last_second ∷ last_first ∷ []) last_level
last-unasked = ((((refl, refl), refl, refl, refl), refl, refl, refl), refl, refl, refl)

last-undisturbed : undisturbed_among (last_third ∷ last_second ∷ last_first ∷ []) last_level ≡ 3
last-undisturbed = refl

last-rounds : rounds_to_come (opening level.L3) last_level ≡ 3
last-rounds = refl

last-waits : waits_to_come (opening level.L3) last_level ≡ 0
last-waits = refl

last_second-told : is_level_announced (after_rounds (last_second ∷ last_first ∷ []) last_level) ≡ false
last_second-told = refl

last_third-told : is_level_announced (after_rounds (last_third ∷ last_second ∷ last_first ∷ []) last_level) ≡ true
last_third-told = refl

-- the tests of which an undisturbed round consists: each can fail alone, and then no fewer rounds are to come
abbrev tests : List Event → List Event → List Bool
tests round past =
    has_no_request round ∷ list_any is_nudge round ∷ makes_kills_due round past
    ∷ list_all (λ child. is_found_ended child.id round) (filter (has_to_end past) (kept_children past))
    ∷ list_all (λ child. not (is_missed child (round ++ past))) (kept_children (round ++ past)) ∷ []

-- the number of rounds to come before and after a round
abbrev nearer : List Event → List Event → List ℕ
nearer round past = rounds_to_come (opening level.L3) past ∷ rounds_to_come (opening level.L3) (round ++ past) ∷ []

abbrev is_nil : List Step → Bool
is_nil [] = true
is_nil (step ∷ steps) = false

abbrev is_none_due : List Event → Bool
is_none_due past = is_nil (due (opening level.L3) past)

-- the trace is sound, at rest with no order open before and after the round, and not announced settled after it
abbrev stands : List Event → List Event → List Bool
stands round past =
    is_sound (opening level.L3) (round ++ past) ∷ is_none_due past ∷ is_idle past ∷ is_none_due (round ++ past)
    ∷ is_idle (round ++ past) ∷ not (is_level_announced (round ++ past)) ∷ []

-- as `initd run` does by default, with a grace of five seconds and pauses of one second: two waited entries, where the
-- child of the first is found alive once; the two rounds in which a child is found ended take no time
abbrev slow_first : List Event
slow_first = started (codes "w") 7 ++ entered level.L3
    ((entry (codes "w") (At level.L3 ∷ []) act.Wait) ∷ (entry (codes "v") (At level.L3 ∷ []) act.Wait) ∷ [])

abbrev alive_yet : List Event
alive_yet = lives (codes "w") ++ Nudge ∷ Clock 1 ∷ []

abbrev next_starts : List Event
next_starts = started (codes "v") 8 ++ ends (codes "w") 7 ++ Nudge ∷ Clock 1 ∷ []

abbrev slow_third : List Event
slow_third = Settle level.L3 ∷ ends (codes "v") 8 ++ Nudge ∷ Clock 1 ∷ []

slow-is_sound : is_sound (opening level.L3) (after_rounds (slow_third ∷ next_starts ∷ alive_yet ∷ []) slow_first) ≡ true
slow-is_sound = refl

slow-unasked : AreRoundsWithoutRequests (opening level.L3) (slow_third ∷ next_starts ∷ alive_yet ∷ []) slow_first
slow-unasked = ((((refl, refl), refl, refl, refl), refl, refl, refl), refl, refl, refl)

slow-rounds : rounds_to_come (opening level.L3) slow_first ≡ 2
slow-rounds = refl

slow-undisturbed : undisturbed_among (slow_third ∷ next_starts ∷ alive_yet ∷ []) slow_first ≡ 2
slow-undisturbed = refl

slow-told : is_level_announced (after_rounds (slow_third ∷ next_starts ∷ alive_yet ∷ []) slow_first) ≡ true
slow-told = refl

-- From the level that a child of the previous level delays. A TERM to it failed, fails once more, and is then sent. The
-- child lives on for five turns, of which the law makes one round, is sent a KILL in the last, is found alive once, and
-- is then found ended. So three of the five rounds are undisturbed, in seven seconds.
abbrev once_more : List Event
once_more = lives (codes "r") ++ missed (codes "r") ++ Nudge ∷ Clock 1 ∷ []

abbrev hit_then : List Event
hit_then = lives (codes "r") ++ sent (codes "r") ++ Nudge ∷ Clock 2 ∷ []

abbrev pays_no_heed : List Event
pays_no_heed = lives (codes "r") ++ killed (codes "r") ++ Nudge ∷ Clock 7 ∷ lives (codes "r") ++ Nudge ∷ Clock 6 ∷ lives
    (codes "r") ++ Nudge ∷ Clock 5 ∷ lives (codes "r") ++ Nudge ∷ Clock 4 ∷ lives (codes "r") ++ Nudge ∷ Clock 3 ∷ []

abbrev not_dead_yet : List Event
not_dead_yet = lives (codes "r") ++ Nudge ∷ Clock 7 ∷ []

abbrev dead_then : List Event
dead_then = Settle level.L2 ∷ ends (codes "r") 7 ++ Nudge ∷ Clock 7 ∷ []

abbrev held_up : List (List Event)
held_up = dead_then ∷ not_dead_yet ∷ pays_no_heed ∷ hit_then ∷ once_more ∷ []

held_up-is_sound : is_sound (opening level.L3) (after_rounds held_up last_level) ≡ true
held_up-is_sound = refl

held_up-unasked : AreRoundsWithoutRequests (opening level.L3) held_up last_level
held_up-unasked =
    ((((((refl, refl), refl, refl, refl), refl, refl, refl), refl, refl, refl), refl, refl, refl), refl, refl, refl)

held_up-undisturbed : undisturbed_among held_up last_level ≡ 3
held_up-undisturbed = refl

held_up-told : is_level_announced (after_rounds held_up last_level) ≡ true
held_up-told = refl

-- a power event is kept until the run level: the entry that it calls there is counted before
abbrev news_table : List Entry
news_table = (entry (codes "s") [] act.Sysinit) ∷ (entry (codes "p") (At level.L3 ∷ []) act.Powerwait) ∷ []

abbrev news_kept : List Event
news_kept = Got (got.Power power.Fail) ∷ started (codes "s") 7 ++ Enter stage.Sysinit 5 ∷ NewTable news_table ∷ []

abbrev news_called : List Event
news_called = started (codes "p") 8 ++ Power power.Fail ∷ Enter (stage.Run level.L3) 5 ∷ Enter stage.Boot 5
    ∷ ends (codes "s") 7 ++ Nudge ∷ Clock 5 ∷ []

news-stands : stands news_called news_kept ≡ true ∷ true ∷ true ∷ true ∷ true ∷ true ∷ []
news-stands = refl

news-tests : tests news_called news_kept ≡ true ∷ true ∷ true ∷ true ∷ true ∷ []
news-tests = refl

news-nearer : nearer news_called news_kept ≡ 2 ∷ 1 ∷ []
news-nearer = refl

-- inittab is read again, and brings one more entry
abbrev waiting : List Event
waiting = started (codes "w") 7 ++ entered level.L3 ((entry (codes "w") (At level.L3 ∷ []) act.Wait) ∷ [])

abbrev read_again : List Event
read_again = started (codes "v") 8 ++ ends (codes "w") 7 ++ Nudge ∷ Clock 5 ∷ NewTable ((entry (codes "w")
    (At level.L3 ∷ []) act.Wait) ∷ (entry (codes "v") (At level.L3 ∷ []) act.Wait) ∷ []) ∷ Got got.Reload ∷ []

asked-stands : stands read_again waiting ≡ true ∷ true ∷ true ∷ true ∷ true ∷ true ∷ []
asked-stands = refl

asked-fails : tests read_again waiting ≡ false ∷ true ∷ true ∷ true ∷ true ∷ []
asked-fails = refl

asked-no_nearer : nearer read_again waiting ≡ 1 ∷ 1 ∷ []
asked-no_nearer = refl

-- no round begins: the end of the child is not seen
abbrev no_round : List Event
no_round = Death 7 ∷ Clock 5 ∷ []

no_round-stands : stands no_round waiting ≡ true ∷ true ∷ true ∷ true ∷ true ∷ true ∷ []
no_round-stands = refl

no_round-fails : tests no_round waiting ≡ true ∷ false ∷ true ∷ true ∷ true ∷ []
no_round-fails = refl

no_round-no_nearer : nearer no_round waiting ≡ 1 ∷ 1 ∷ []
no_round-no_nearer = refl

-- the clock does not advance: a child that ignores the first signal is not sent the second
abbrev ignoring : List Event
ignoring =
    sent (codes "r") ++ goes_to level.L2 ++ Settle level.L3 ∷ started (codes "r") 7 ++ entered level.L3 last_table

abbrev no_clock : List Event
no_clock = lives (codes "r") ++ Nudge ∷ []

no_clock-stands : stands no_clock ignoring ≡ true ∷ true ∷ true ∷ true ∷ true ∷ true ∷ []
no_clock-stands = refl

no_clock-fails : tests no_clock ignoring ≡ true ∷ true ∷ false ∷ true ∷ true ∷ []
no_clock-fails = refl

no_clock-no_nearer : nearer no_clock ignoring ≡ 2 ∷ 2 ∷ []
no_clock-no_nearer = refl

-- the clock need not advance if that child is gone, or if no child lacks only the second signal
abbrev heeds : List Event
heeds = Settle level.L2 ∷ ends (codes "r") 7 ++ Nudge ∷ []

heeds-is_sound : is_sound (opening level.L3) (heeds ++ ignoring) ≡ true
heeds-is_sound = refl

heeds-tests : tests heeds ignoring ≡ true ∷ true ∷ true ∷ true ∷ true ∷ []
heeds-tests = refl

heeds-nearer : nearer heeds ignoring ≡ 2 ∷ 0 ∷ []
heeds-nearer = refl

abbrev hits_at_once : List Event
hits_at_once = lives (codes "r") ++ sent (codes "r") ++ Nudge ∷ []

hits_at_once-stands : stands hits_at_once last_level ≡ true ∷ true ∷ true ∷ true ∷ true ∷ true ∷ []
hits_at_once-stands = refl

hits_at_once-tests : tests hits_at_once last_level ≡ true ∷ true ∷ true ∷ true ∷ true ∷ []
hits_at_once-tests = refl

hits_at_once-nearer : nearer hits_at_once last_level ≡ 3 ∷ 2 ∷ []
hits_at_once-nearer = refl

-- but at the limit of the clock, whatever it reads, the grace is never over
abbrev late : List Event
late = sent (codes "r") ++ goes_to level.L2 ++ Settle level.L3 ∷ Clock 1000000000000 ∷ started (codes "r") 7
    ++ entered level.L3 last_table

abbrev later_reading : List Event
later_reading = lives (codes "r") ++ Nudge ∷ Clock 1000000000099 ∷ []

late-stands : stands later_reading late ≡ true ∷ true ∷ true ∷ true ∷ true ∷ true ∷ []
late-stands = refl

late-fails : tests later_reading late ≡ true ∷ true ∷ false ∷ true ∷ true ∷ []
late-fails = refl

late-no_nearer : nearer later_reading late ≡ 2 ∷ 2 ∷ []
late-no_nearer = refl

-- the child of a wait entry lives on; so does one whose entry is wanted again, and one that was sent a KILL
abbrev lives_on : List Event
lives_on = lives (codes "w") ++ Nudge ∷ Clock 5 ∷ []

lives_on-stands : stands lives_on waiting ≡ true ∷ true ∷ true ∷ true ∷ true ∷ true ∷ []
lives_on-stands = refl

lives_on-fails : tests lives_on waiting ≡ true ∷ true ∷ true ∷ false ∷ true ∷ []
lives_on-fails = refl

lives_on-no_nearer : nearer lives_on waiting ≡ 1 ∷ 1 ∷ []
lives_on-no_nearer = refl

abbrev way_lives_on : List Event
way_lives_on = lives (codes "o") ++ Nudge ∷ Clock 5 ∷ []

way-stands : stands way_lives_on in_its_way ≡ true ∷ true ∷ true ∷ true ∷ true ∷ true ∷ []
way-stands = refl

way-fails : tests way_lives_on in_its_way ≡ true ∷ true ∷ true ∷ false ∷ true ∷ []
way-fails = refl

way-no_nearer : nearer way_lives_on in_its_way ≡ 1 ∷ 1 ∷ []
way-no_nearer = refl

abbrev killed_in_vain : List Event
killed_in_vain = killed (codes "r") ++ Clock 5 ∷ ignoring

abbrev killed_lives_on : List Event
killed_lives_on = lives (codes "r") ++ Nudge ∷ Clock 10 ∷ []

killed-stands : stands killed_lives_on killed_in_vain ≡ true ∷ true ∷ true ∷ true ∷ true ∷ true ∷ []
killed-stands = refl

killed-fails : tests killed_lives_on killed_in_vain ≡ true ∷ true ∷ true ∷ false ∷ true ∷ []
killed-fails = refl

killed-no_nearer : nearer killed_lives_on killed_in_vain ≡ 1 ∷ 1 ∷ []
killed-no_nearer = refl

-- the signal fails again
abbrev misses_again : List Event
misses_again = lives (codes "r") ++ missed (codes "r") ++ Nudge ∷ Clock 5 ∷ []

misses-stands : stands misses_again last_level ≡ true ∷ true ∷ true ∷ true ∷ true ∷ true ∷ []
misses-stands = refl

misses-fails : tests misses_again last_level ≡ true ∷ true ∷ true ∷ true ∷ false ∷ []
misses-fails = refl

misses-no_nearer : nearer misses_again last_level ≡ 3 ∷ 3 ∷ []
misses-no_nearer = refl

-- an order is not answered: no rounds are to come, and the level is not announced settled
abbrev one_behind : List Event
one_behind = started (codes "w") 7 ++ entered level.L3
    ((entry (codes "w") (At level.L3 ∷ []) act.Wait) ∷ (entry (codes "v") (At level.L3 ∷ []) act.Wait) ∷ [])

abbrev unanswered : List Event
unanswered = Asked (codes "v") Start ∷ ends (codes "w") 7 ++ Nudge ∷ Clock 5 ∷ []

unanswered-stands : stands unanswered one_behind ≡ true ∷ true ∷ true ∷ true ∷ false ∷ true ∷ []
unanswered-stands = refl

unanswered-tests : tests unanswered one_behind ≡ true ∷ true ∷ true ∷ true ∷ true ∷ []
unanswered-tests = refl

unanswered-nearer : nearer unanswered one_behind ≡ 2 ∷ 0 ∷ []
unanswered-nearer = refl

-- the number of rounds to come never rises from a rest with no order open while there are no requests; but it rises if
-- inittab is read again,
abbrev two_more : List Event
two_more = NewTable ((entry (codes "w") (At level.L3 ∷ []) act.Wait) ∷ (entry (codes "v") (At level.L3 ∷ []) act.Wait)
    ∷ (entry (codes "u") (At level.L3 ∷ []) act.Wait) ∷ []) ∷ Got got.Reload ∷ []

two_more-is_sound : is_sound (opening level.L3) (two_more ++ waiting) ≡ true
two_more-is_sound = refl

two_more-farther : nearer two_more waiting ≡ 1 ∷ 3 ∷ []
two_more-farther = refl

-- after a moment that is not a rest, because another level was requested,
abbrev wished : List Event
wished = NotRead ∷ Got (got.Level level.L2 5) ∷ Settle level.L3 ∷ started (codes "r") 7 ++ entered level.L3 last_table

wished-no_rest : is_none_due wished ≡ false
wished-no_rest = refl

wished-is_idle : is_idle wished ≡ true
wished-is_idle = refl

wished-is_sound : is_sound (opening level.L3) (Enter (stage.Run level.L2) 5 ∷ wished) ≡ true
wished-is_sound = refl

wished-farther : nearer (Enter (stage.Run level.L2) 5 ∷ []) wished ≡ 0 ∷ 3 ∷ []
wished-farther = refl

-- and after one at which a start is under way
abbrev born_then : List Event
born_then = Told (codes "v") ∷ Birth (codes "v") 8 ∷ []

born_then-is_sound : is_sound (opening level.L3) (born_then ++ unanswered ++ one_behind) ≡ true
born_then-is_sound = refl

born_then-farther : nearer born_then (unanswered ++ one_behind) ≡ 0 ∷ 1 ∷ []
born_then-farther = refl

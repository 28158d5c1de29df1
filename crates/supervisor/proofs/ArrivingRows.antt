-- Worked turns with the default grace and pauses, computed by `refl`. The last turn settles the level.
use Rattle.supervisor.proofs.Words.{◌≡◌, refl, ℕ, true, false, List, [], ◌∷◌, codes, None, Some, Ok, Entry, Alive, Born}
use Rattle.supervisor.proofs.Words.{Ended, Enter, Settle, NewTable, Told, Asked, opening_goal, rounds_to_come}
use Rattle.supervisor.proofs.Words.{is_level_announced, Start, Look, Late, Clock, TakeBytes, Announce, Pause, Signal}
use Rattle.supervisor.proofs.Words.{HostCall, Point, is_allowed, has_trace, are_unasked_rounds, undisturbed_rounds}
use Rattle.supervisor.proofs.Words.{past_after, without_rounds, start_point}
use Rattle.init_words.specs.declared.actions.Act.TheVariants as act
use Rattle.init_words.specs.declared.children.Status.TheVariants.{Exit, Killed}
use Rattle.init_words.specs.declared.levels.Level.TheVariants as level
use Rattle.init_words.specs.declared.levels.Mark.TheVariants.{At}
use Rattle.init_words.specs.declared.stages.Stage.TheVariants as stage
use Rattle.init_words.specs.declared.orders.Answer.TheVariants as answer
use Rattle.init_words.specs.declared.orders.OrderKind.TheVariants as order
use Rattle.init_words.specs.declared.orders.SignalKind.TheVariants as signal
use Rattle.initctl_frame.specs.declared.requests.HeardRequest.TheVariants as got
use Rattle.trace_events.specs.declared.happenings.Happening.TheVariants.{Birth, Hit, NotRead, Got}
use Rattle.host_calls.specs.declared.calls.Reply.TheVariants.{Now, Later}

abbrev table : List Entry
table =
    record {
      id = codes "w";
      levels = record { items = At level.L3 ∷ [] };
      act = act.Wait;
      process = record { items = codes "prep" };
    }
    ∷ record {
      id = codes "r";
      levels = record { items = At level.L3 ∷ [] };
      act = act.Respawn;
      process = record { items = codes "serv" };
    } ∷ []

-- init goes to level 3, and waits for the child of w
abbrev first_turn : List HostCall
first_turn =
    Pause ∷ Start (codes "w") (codes "prep") (Now (Born 10)) ∷ Announce (Enter (stage.Run level.L3) 5) ∷ Announce
    (Enter stage.Boot 5) ∷ Announce (Enter stage.Sysinit 5) ∷ Late None ∷ TakeBytes 256 (Ok []) ∷ Clock (Ok 0) ∷ []

-- a second later the child still runs; in the next turn, within the same second, a look finds that it ended
abbrev waiting : List HostCall
waiting = Pause ∷ Look (codes "w") (Now Alive) ∷ Late None ∷ TakeBytes 256 (Ok []) ∷ Clock (Ok 1) ∷ first_turn

abbrev settling : List HostCall
settling = Pause ∷ Announce (Settle level.L3) ∷ Start (codes "r") (codes "serv") (Now (Born 11))
    ∷ Look (codes "w") (Now (Ended (Exit 0))) ∷ Late None ∷ TakeBytes 256 (Ok []) ∷ Clock (Ok 1) ∷ waiting

settling-in_place : has_trace (opening_goal (Some level.L3) table) settling (start_point table) ≡ true
settling-in_place = refl

settling-allowed : is_allowed (opening_goal (Some level.L3) table) (past_after settling (start_point table)) ≡ true
settling-allowed = refl

settling-without : without_rounds (1 ∷ 1 ∷ []) settling ≡ first_turn
settling-without = refl

-- one round is to come, and one of the two turns is undisturbed; taken as one round, the two turns are an undisturbed
-- one
to_come : rounds_to_come (opening_goal (Some level.L3) table) (past_after first_turn (start_point table)) ≡ 1
to_come = refl

settling-unasked : are_unasked_rounds (1 ∷ 1 ∷ []) settling (start_point table) ≡ true
settling-unasked = refl

settling-undisturbed : undisturbed_rounds (1 ∷ 1 ∷ []) settling (start_point table) ≡ 1
settling-undisturbed = refl

settling-in_one : are_unasked_rounds (2 ∷ []) settling (start_point table) ≡ true
settling-in_one = refl

settling-one : undisturbed_rounds (2 ∷ []) settling (start_point table) ≡ 1
settling-one = refl

settling-settled : is_level_announced (past_after settling (start_point table)) ≡ true
settling-settled = refl

-- no round is undisturbed while the child runs
waiting-unasked : are_unasked_rounds (1 ∷ []) waiting (start_point table) ≡ true
waiting-unasked = refl

waiting-disturbed : undisturbed_rounds (1 ∷ []) waiting (start_point table) ≡ 0
waiting-disturbed = refl

waiting-unsettled : is_level_announced (past_after waiting (start_point table)) ≡ false
waiting-unsettled = refl

-- nor is one counted if the answer to the look is still to come
abbrev unanswered : List HostCall
unanswered = Pause ∷ Look (codes "w") Later ∷ Late None ∷ TakeBytes 256 (Ok []) ∷ Clock (Ok 1) ∷ first_turn

unanswered-fails : are_unasked_rounds (1 ∷ []) unanswered (start_point table) ≡ false
unanswered-fails = refl

unanswered-unsettled : is_level_announced (past_after unanswered (start_point table)) ≡ false
unanswered-unsettled = refl

-- a child ignores the TERM that follows a request for another level: it is found running for five seconds, and once
-- after its KILL. The five turns up to then are one undisturbed round, while none of them is one by itself
abbrev stubborn : List Entry
stubborn = record {
  id = codes "x";
  levels = record { items = At level.L2 ∷ [] };
  act = act.Once;
  process = record { items = codes "serv" };
} ∷ []

abbrev asked : Point
asked = record {
  over = [];
  lates = 0;
  generation = 0;
  past = Told (codes "x") ∷ Hit (codes "x") ∷ Asked (codes "x") order.Term ∷ Enter (stage.Run level.L3) 5 ∷ NotRead
      ∷ Got (got.Level level.L3 5) ∷ Settle level.L2 ∷ Told (codes "x") ∷ Birth (codes "x") 10 ∷ Asked (codes "x")
      order.Start ∷ Enter (stage.Run level.L2) 5 ∷ Enter stage.Boot 5 ∷ Enter stage.Sysinit 5 ∷ NewTable stubborn ∷ [];
}

abbrev alive_at : ℕ → List HostCall → List HostCall
alive_at time calls = Pause ∷ Look (codes "x") (Now Alive) ∷ Late None ∷ TakeBytes 256 (Ok []) ∷ Clock (Ok time) ∷ calls

abbrev killing : List HostCall
killing = Pause ∷ Look (codes "x") (Now Alive) ∷ Signal (codes "x") signal.Kill (Now answer.Hit) ∷ Late None
    ∷ TakeBytes 256 (Ok []) ∷ Clock (Ok 5) ∷ alive_at 4 (alive_at 3 (alive_at 2 (alive_at 1 (alive_at 0 []))))

abbrev dying : List HostCall
dying = Pause ∷ Announce (Settle level.L3) ∷ Look (codes "x") (Now (Ended Killed)) ∷ Late None ∷ TakeBytes 256 (Ok [])
    ∷ Clock (Ok 5) ∷ alive_at 5 killing

dying-in_place : has_trace (opening_goal (Some level.L2) stubborn) dying asked ≡ true
dying-in_place = refl

dying-allowed : is_allowed (opening_goal (Some level.L2) stubborn) (past_after dying asked) ≡ true
dying-allowed = refl

dying-to_come : rounds_to_come (opening_goal (Some level.L2) stubborn) (past_after (alive_at 0 []) asked) ≡ 2
dying-to_come = refl

dying-without : without_rounds (1 ∷ 1 ∷ 5 ∷ []) dying ≡ alive_at 0 []
dying-without = refl

dying-unasked : are_unasked_rounds (1 ∷ 1 ∷ 5 ∷ []) dying asked ≡ true
dying-unasked = refl

dying-undisturbed : undisturbed_rounds (1 ∷ 1 ∷ 5 ∷ []) dying asked ≡ 2
dying-undisturbed = refl

dying-alone : undisturbed_rounds (1 ∷ 1 ∷ 1 ∷ 1 ∷ 1 ∷ 1 ∷ 1 ∷ []) dying asked ≡ 1
dying-alone = refl

dying-settled : is_level_announced (past_after dying asked) ≡ true
dying-settled = refl

-- Worked examples: calls and their traces, checked by computation (`refl`).
use Rattle.supervisor.proofs.EdgeWords.{◌≡◌, refl, ap, ℕ, suc, true, false, ◌||◌, false≢true, length, length-append}
use Rattle.supervisor.proofs.EdgeWords.{Event}
use Rattle.supervisor.proofs.EdgeWords.{Took, List, [], ◌∷◌, ◌++◌, take, drop, codes, Some, None, Ok, inl, arith, Entry}
use Rattle.supervisor.proofs.EdgeWords.{block_of_ints, Goal, due, first, is_sound, SavedState, state_of, V2, Start}
use Rattle.supervisor.proofs.EdgeWords.{Late}
use Rattle.supervisor.proofs.EdgeWords.{Clock, TakeBytes, ReadTables, Carry, Announce, Pause, Now, Later, HostCall}
use Rattle.supervisor.proofs.EdgeWords.{TextRead, Point, point_after, has_trace, AreTexts, is_allowed, past_of}
use Rattle.supervisor.proofs.EdgeWords.{AreSteps}
use Rattle.supervisor.proofs.EdgeWords.{IsTurn, is_reread, is_step}
use Rattle.init_words.specs.declared.actions.Act.{Act}
use Rattle.init_words.specs.declared.actions.Act.TheVariants as act
use Rattle.init_words.specs.declared.levels.Level.TheVariants as level
use Rattle.init_words.specs.declared.levels.Mark.{Mark}
use Rattle.init_words.specs.declared.levels.Mark.TheVariants.{At}
use Rattle.init_words.specs.declared.stages.Stage.TheVariants as stage
use Rattle.init_words.specs.declared.orders.Answer.TheVariants.{Born, NotBorn, Alive}
use Rattle.init_words.specs.declared.orders.OrderKind.TheVariants as ask
use Rattle.init_words.specs.Parts.{NamedText}
use Rattle.inittab_text.specs.Checks.{verdict_of}
use Rattle.initctl_frame.specs.declared.requests.HeardRequest.TheVariants as got
use Rattle.trace_events.specs.declared.happenings.Handed.TheVariants as handed
use Rattle.trace_events.specs.declared.happenings.Happening.TheVariants as past
use Rattle.trace_events.specs.declared.steps.Step.TheVariants as step
use Rattle.core_text.specs.Lines.{text_in}
use Rattle.std.proofs.lemmas.List.{length-reverse}
use Rattle.trace_log.specs.Lists.{Listed, list_state}
use Rattle.host_calls.specs.declared.calls.Call.TheVariants.{Look}
use Rattle.supervisor.specs.Edges.{Kept, Made}
use Rattle.supervisor.proofs.Taking.{Took-none}

abbrev entry : List ℕ → List Mark → Act → List ℕ → Entry
entry id levels action process =
    record { id = id; levels = record { items = levels }; act = action; process = record { items = process } }

abbrev goal : Goal
goal = record { level = level.L3; grace = 5 }

abbrev opening : Point
opening = record {
  over = [];
  lates = 0;
  generation = 0;
  past = past.NewTable
      (entry (codes "id") (At level.L3 ∷ []) act.Initdefault [] ∷ entry (codes "w") (At level.L3 ∷ [])
      act.Wait (codes "prep") ∷ entry (codes "r") (At level.L3 ∷ []) act.Respawn (codes "serv") ∷ []) ∷ [];
}

-- two turns: the first start fails, and the second is answered in the next turn
abbrev first_steps : List HostCall
first_steps = Start (codes "r") (codes "serv") Later ∷ Start (codes "w") (codes "prep") (Now NotBorn)
    ∷ Announce (past.Enter (stage.Run level.L3) 5) ∷ Announce (past.Enter stage.Boot 5)
    ∷ Announce (past.Enter stage.Sysinit 5) ∷ []

abbrev heard : List HostCall
heard = Late None ∷ TakeBytes 256 (Ok []) ∷ Clock (Ok 0) ∷ []

abbrev late_heard : List HostCall
late_heard = Late None ∷ Late (Some (codes "r", Born 11)) ∷ TakeBytes 256 (Ok []) ∷ Clock (Ok 0) ∷ []

abbrev last_steps : List HostCall
last_steps = Look (codes "r") (Now Alive) ∷ Announce (past.Settle level.L3) ∷ []

abbrev two_turns : List HostCall
two_turns = Pause ∷ (last_steps ++ (late_heard ++ Pause ∷ (first_steps ++ heard)))

two_turns-are : (point_after two_turns opening).past ≡ past.Told (codes "r") ∷ past.Still (codes "r")
    ∷ past.Asked (codes "r") ask.Look ∷ past.Settle level.L3 ∷ past.Nudge ∷ past.Told (codes "r")
    ∷ past.Birth (codes "r") 11 ∷ past.Clock 0 ∷ past.Asked (codes "r") ask.Start ∷ past.Told (codes "w")
    ∷ past.NoBirth (codes "w") ∷ past.Asked (codes "w") ask.Start ∷ past.Enter (stage.Run level.L3) 5
    ∷ past.Enter stage.Boot 5 ∷ past.Enter stage.Sysinit 5 ∷ past.Nudge ∷ past.Clock 0 ∷ opening.past
two_turns-are = refl

two_turns-in_place : has_trace goal two_turns opening ≡ true
two_turns-in_place = refl

two_turns-allowed : is_allowed goal (point_after two_turns opening).past ≡ true
two_turns-allowed = refl

two_turns-sound : is_sound goal (point_after two_turns opening).past ≡ true
two_turns-sound = refl

-- a step of one call, after others
one_step : (call : HostCall) (n : ℕ) (calls : List HostCall) → (is_step (call ∷ []) || is_reread false (call ∷ []))
    ≡ true → AreSteps false n calls → AreSteps false (suc n) (call ∷ calls)
one_step call n calls is before = (call ∷ [], calls, refl, is, before)

each_a_step : AreSteps false 5 first_steps
each_a_step = one_step (Start (codes "r") (codes "serv") Later) 4 _ refl (one_step (Start (codes "w") (codes "prep")
    (Now NotBorn)) 3 _ refl (one_step (Announce (past.Enter (stage.Run level.L3) 5)) 2 _ refl (one_step
    (Announce (past.Enter stage.Boot 5)) 1 _ refl (one_step (Announce (past.Enter stage.Sysinit 5)) 0 [] refl refl))))

last_a_step : AreSteps false 2 last_steps
last_a_step =
    one_step (Look (codes "r") (Now Alive)) 1 _ refl (one_step (Announce (past.Settle level.L3)) 0 [] refl refl)

-- each is a turn, and ends with nothing due
first_turn : IsTurn false true (first_steps ++ heard)
first_turn = record {
  time = Ok 0;
  takes = TakeBytes 256 (Ok []) ∷ [];
  lates = Late None ∷ [];
  steps = first_steps;
  count = 5;
  whole = refl;
  byte_calls = refl;
  late_calls = refl;
  step_calls = each_a_step;
  most = omega arith;
  ended = inl refl;
}

last_turn : IsTurn false true (last_steps ++ late_heard)
last_turn = record {
  time = Ok 0;
  takes = TakeBytes 256 (Ok []) ∷ [];
  lates = Late None ∷ Late (Some (codes "r", Born 11)) ∷ [];
  steps = last_steps;
  count = 2;
  whole = refl;
  byte_calls = refl;
  late_calls = refl;
  step_calls = last_a_step;
  most = omega arith;
  ended = inl refl;
}

two_turns-rest : first (due goal (point_after two_turns opening).past) ≡ step.Idle
two_turns-rest = refl

-- another command was started
abbrev other_command : List HostCall
other_command = Start (codes "w") (codes "serv") (Now NotBorn) ∷ Announce (past.Enter (stage.Run level.L3) 5)
    ∷ Announce (past.Enter stage.Boot 5) ∷ Announce (past.Enter stage.Sysinit 5) ∷ heard

other_command-is_not : has_trace goal other_command opening ≡ false
other_command-is_not = refl

-- a late answer for an id without an order has no effect, and a look at the other id is not due
abbrev other_late : List HostCall
other_late = Late None ∷ Late (Some (codes "w", Born 11)) ∷ TakeBytes 256 (Ok []) ∷ Clock (Ok 0) ∷ []

other_late-is_nothing : (point_after (other_late ++ Pause ∷ (first_steps ++ heard)) opening).past
    ≡ past.Nudge ∷ past.Clock 0 ∷ (point_after (first_steps ++ heard) opening).past
other_late-is_nothing = refl

other_late-is_not : is_sound goal
    (point_after (last_steps ++ (other_late ++ Pause ∷ (first_steps ++ heard))) opening).past ≡ false
other_late-is_not = refl

-- the number of an unreaped child was given again
abbrev number_again : List HostCall
number_again = Start (codes "b") (codes "y") (Now (Born 11)) ∷ Start (codes "a") (codes "x") (Now (Born 11))
    ∷ Announce (past.Enter (stage.Run level.L3) 5) ∷ Announce (past.Enter stage.Boot 5)
    ∷ Announce (past.Enter stage.Sysinit 5) ∷ heard

abbrev two_at_once : Point
two_at_once = record {
  over = [];
  lates = 0;
  generation = 0;
  past = past.NewTable (entry (codes "a") (At level.L3 ∷ []) act.Once (codes "x")
      ∷ entry (codes "b") (At level.L3 ∷ []) act.Once (codes "+y") ∷ []) ∷ [];
}

number_again-in_place : has_trace goal number_again two_at_once ≡ true
number_again-in_place = refl

number_again-is_not_allowed : is_allowed goal (point_after number_again two_at_once).past ≡ false
number_again-is_not_allowed = refl

-- inittab is to be read again: the request came in two pieces
abbrev reload : List ℕ
reload = block_of_ints 1 113 5

abbrev asked_to_read : List HostCall
asked_to_read = Announce (past.Enter stage.Sysinit 5) ∷ Late None ∷ TakeBytes 256 (Ok [])
    ∷ TakeBytes 256 (Ok (drop 256 reload)) ∷ TakeBytes 256 (Ok (take 256 reload)) ∷ Clock (Ok 0) ∷ []

asked_to_read-is : (point_after asked_to_read opening).past
    ≡ past.Enter stage.Sysinit 5 ∷ past.Nudge ∷ past.Got got.Reload ∷ past.Clock 0 ∷ opening.past
asked_to_read-is = refl

asked_to_read-over : (point_after asked_to_read opening).over ≡ []
asked_to_read-over = refl

-- its table is used, or `notread` is announced
abbrev is_used : List HostCall
is_used = ReadTables (Ok []) ∷ asked_to_read

is_used-in_place : has_trace goal is_used opening ≡ true
is_used-in_place = refl

is_used-sound : is_sound goal (point_after is_used opening).past ≡ true
is_used-sound = refl

is_used-is : (point_after is_used opening).past ≡ past.NewTable [] ∷ (point_after asked_to_read opening).past
is_used-is = refl

not_used-in_place : has_trace goal (Announce past.NotRead ∷ is_used) opening ≡ true
not_used-in_place = refl

not_used-is : (point_after (Announce past.NotRead ∷ is_used) opening).past
    ≡ past.NotRead ∷ (point_after asked_to_read opening).past
not_used-is = refl

-- a strict init takes no table with a faulty line, and announces that; another one may take it
abbrev faulty : List NamedText
faulty = record { name = codes "tab"; bytes = codes "x\n" } ∷ []

faulty-strict : is_reread true (ReadTables (Ok faulty) ∷ []) ≡ false
unfolding verdict_of
faulty-strict = refl

faulty-told : is_reread true (Announce past.NotRead ∷ ReadTables (Ok faulty) ∷ []) ≡ true
faulty-told = refl

faulty-taken : is_reread false (ReadTables (Ok faulty) ∷ []) ≡ true
faulty-taken = refl

-- but `notread` is not announced unless inittab was read, and inittab is not read unless that is due
not_read-is_not : has_trace goal (Announce past.NotRead ∷ asked_to_read) opening ≡ false
not_read-is_not = refl

read_again-is_not : has_trace goal (ReadTables (Ok []) ∷ is_used) opening ≡ false
read_again-is_not = refl

-- Re-execution: the request came in one piece, and the text came back whole.

abbrev asked_anew : List HostCall
asked_anew = Announce (past.Enter stage.Sysinit 5) ∷ Late None ∷ TakeBytes 256 (Ok [])
    ∷ TakeBytes 384 (Ok (block_of_ints 1 117 5)) ∷ Clock (Ok 0) ∷ []

abbrev text : List ℕ
text = codes "initd-state 1\ngeneration 2\n"

abbrev anew : TextRead → List HostCall
anew back = Carry text back ∷ asked_anew

whole-in_place : has_trace goal (anew (Ok text)) opening ≡ true
whole-in_place = refl

whole-is : (point_after (anew (Ok text)) opening).past
    ≡ past.Handed handed.Whole ∷ (point_after asked_anew opening).past
whole-is = refl

-- the text came back cut: init continues as it is, and announces that
cut-in_place : has_trace goal (Announce (past.Handed (handed.Cut 4)) ∷ anew (Ok (codes "init"))) opening ≡ true
cut-in_place = refl

cut-is : (point_after (Announce (past.Handed (handed.Cut 4)) ∷ anew (Ok (codes "init"))) opening).past
    ≡ past.Handed (handed.Cut 4) ∷ (point_after asked_anew opening).past
cut-is = refl

cut_elsewhere-is_not : has_trace goal (Announce (past.Handed (handed.Cut 5)) ∷ anew (Ok (codes "init"))) opening ≡ false
cut_elsewhere-is_not = refl

not_cut-is_not : has_trace goal (Announce (past.Handed (handed.Cut 28)) ∷ anew (Ok text)) opening ≡ false
not_cut-is_not = refl

-- it is not announced that the text was rejected for another reason, or not at all, or after another call
cut_as_none-is_not : has_trace goal (Announce (past.Handed handed.Failed) ∷ anew (Ok (codes "init"))) opening ≡ false
cut_as_none-is_not = refl

cut_unsaid-is_not : has_trace goal (anew (Ok (codes "init"))) opening ≡ false
cut_unsaid-is_not = refl

cut_said_late-is_not : has_trace goal (Announce (past.Handed handed.Failed) ∷ Pause ∷ anew (Ok (codes "init"))) opening
    ≡ false
cut_said_late-is_not = refl

-- the text was rejected for another reason although it came back whole: that replaces the hand-over
failed-in_place : has_trace goal (Announce (past.Handed handed.Failed) ∷ anew (Ok text)) opening ≡ true
failed-in_place = refl

failed-is : (point_after (Announce (past.Handed handed.Failed) ∷ anew (Ok text)) opening).past
    ≡ past.Handed handed.Failed ∷ (point_after asked_anew opening).past
failed-is = refl

-- no text was made; and none is made unless a re-execution is due
unmade-in_place : has_trace goal (Announce (past.Handed handed.Failed) ∷ asked_anew) opening ≡ true
unmade-in_place = refl

unasked-is_not : has_trace goal (Carry text (Ok text) ∷ asked_to_read) opening ≡ false
unasked-is_not = refl

-- only a text of init's state is carried
no_text : (state : SavedState) → text_in V2 state ≡ codes "x" → ⊥
no_text state is = cc

no_state-is_not : AreTexts goal (Carry (codes "x") (Ok (codes "x")) ∷ asked_anew) opening → ⊥
no_state-is_not texts = let said = texts.0 refl in no_text (state_of said.core) said.says.1

-- What a log in memory had taken when each call was made.

abbrev listed : List Event → Listed
listed list = record { list = list; failed = false }

abbrev made_with : HostCall → List Event → Made Listed
made_with call list = record { call = call; log = listed list }

abbrev Any : Goal → Point → Type 0
Any _ _ = Unit {0}

-- the reading of the clock was written before the next call was made
logged-kept : Kept list_state past_of Any (list_state (listed []))
    (made_with (Late None) (past.Clock 0 ∷ []) ∷ made_with (Clock (Ok 0)) [] ∷ [])
logged-kept = (
  λ goal p sound fits allowed. (
    tt,
    λ carried short. record {
      same = refl;
      came = past.Clock 0 ∷ [];
      grown = refl;
      log = λ before taken. record {
        took = past.Clock 0 ∷ [];
        missed = [];
        parts = refl;
        told = ap (λ list. list ++ past.Clock 0 ∷ []) taken;
        whole = λ works. refl;
        ended = inl refl;
        nothing = λ failed. absurd (false≢true failed);
        stays = λ failed. failed;
      };
    },
  ),
  ((λ goal p sound fits allowed. (tt, λ carried short. Took-none (list_state (listed [])) p.past)), tt),
)

-- the reading of the clock was not written by then
unlogged-not_kept : Kept list_state past_of Any (list_state (listed []))
    (made_with (Late None) [] ∷ made_with (Clock (Ok 0)) [] ∷ []) → ⊥
unlogged-not_kept kept =
    let took : Took (list_state (listed [])) (list_state (listed [])) opening.past (past.Clock 0 ∷ opening.past) =
    (kept.0 goal opening refl tt refl).1 refl refl in
    let takes = took.log [] refl in
    omega (
      arith,
      ap length took.grown,
      length-append took.came opening.past,
      ap length takes.parts,
      length-append takes.missed takes.took,
      ap length (takes.whole refl),
      ap length takes.told,
      length-reverse takes.took,
    )

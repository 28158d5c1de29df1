-- Which entry is started next in an undisturbed run.
use Rattle.trace_laws.proofs.Words.{◌≡◌, refl, sym, ◌∙◌, ap, ℕ, Bool, true, false, not, ◌&&◌, ◌||◌, cond, nat_lt}
use Rattle.trace_laws.proofs.Words.{nat_le, length, ◌+◌, ◌-◌, List, [], ◌∷◌, ◌++◌, map, filter, Option, Some, None}
use Rattle.trace_laws.proofs.Words.{arith, list_any, false≢true, and_parts, and_right, not-true, HOLD, STARTS, WINDOW}
use Rattle.trace_laws.proofs.Words.{Entry, Stage, Start, same_id, stays_called, same_id-self, same_id-sym, has_id}
use Rattle.trace_laws.proofs.Words.{entry_of, is_distinct, NewTable, Asked, Order, Goal, Event, table_of, stage_of}
use Rattle.trace_laws.proofs.Words.{time_of, has_child, open_of, kept_children, starts_in, is_asked, is_called}
use Rattle.trace_laws.proofs.Words.{is_wanted, is_owed, start_times, hold_times, is_held, is_full, steps_if, can_start}
use Rattle.trace_laws.proofs.Words.{start_steps, starts_among, first, is_started, start_of}
use Rattle.trace_events.specs.declared.happenings.Happening.TheVariants.{Enter, Call, Power, Hold as Held}
use Rattle.trace_laws.proofs.Dues.{MayHold, due_facts}
use Rattle.trace_laws.proofs.Plain.{Plain, Comes, plain_ind, plain_distinct}
use Rattle.trace_laws.proofs.Children.{IsFound, unasked_free, idle_unasked}

-- the stage in force starts the entry by itself
abbrev pub started_now : Entry → Option Stage → Bool
started_now e None = false
started_now e (Some now) = is_started now e

-- the stage in force starts the entry by itself, and the entry was not asked yet
abbrev pub is_coming : List Event → Entry → Bool
is_coming past e = not (is_asked e.id past) && started_now e (stage_of past)

-- no entry was called
uncalled : (goal : Goal) (past : List Event) → Plain goal past → (e : Entry) → is_called e past ≡ false
uncalled goal past plain e =
    plain_ind goal (λ p. is_called e p ≡ false) (λ table distinct. refl) goes past plain.runs plain.mild where
      goes : (happening : Event) (p : List Event) → Comes goal happening p → is_called e p ≡ false
          → is_called e (happening ∷ p) ≡ false
      goes (NewTable table) p comes before = refl
      goes (Enter now grace) p comes before = refl
      goes (Call letter) p comes before = absurd (false≢true comes.mild)
      goes (Power kind) p comes before = absurd (false≢true comes.mild)
      goes (Asked i Start) p comes before =
          and_right (stays_called e.act || not (same_id e.id i)) (is_called e p) before
      goes (_) p comes before = before

pub coming_wanted : (goal : Goal) (past : List Event) → Plain goal past → (e : Entry) → IsFound e past
    → is_wanted e past ≡ is_coming past e
coming_wanted goal past plain e found = grind (arith, uncalled, idle_unasked)

-- an entry that is to be started starts in the stage and was not asked
started_starts : (e : Entry) (o : Option Stage) → started_now e o ≡ true → starts_in e o ≡ true
started_starts e o h = grind arith

coming_free : (goal : Goal) (past : List Event) → Plain goal past → (e : Entry) → IsFound e past
    → is_coming past e ≡ true → (has_child e.id (kept_children past) ≡ false) × (open_of e.id past ≡ None)
coming_free goal past plain e found h =
    let parts = and_parts (not (is_asked e.id past)) (started_now e (stage_of past)) h in
    unasked_free goal past plain e found (started_starts e (stage_of past) parts.1)
    (not-true (is_asked e.id past) parts.0)

pub coming_childless : (goal : Goal) (past : List Event) → Plain goal past → (e : Entry) → IsFound e past
    → is_coming past e ≡ true → has_child e.id (kept_children past) ≡ false
coming_childless goal past plain e found h = (coming_free goal past plain e found h).0

coming_can : (goal : Goal) (past : List Event) → Plain goal past → (e : Entry) → IsFound e past → (b : Bool)
    → is_coming past e ≡ b → can_start e past ≡ b
coming_can goal past plain e found b h = grind (arith, coming_free, coming_wanted)

-- an entry that was not asked has no starts in its window
unasked_times : (id : List ℕ) (past : List Event) → is_asked id past ≡ false → start_times id past ≡ []
unasked_times id [] h = refl
unasked_times id (NewTable table ∷ past) h = refl
unasked_times id (Enter now grace ∷ past) h = refl
unasked_times id (Asked i Start ∷ past) h = grind (arith, unasked_times id past)
unasked_times id (_ ∷ past) h = unasked_times id past h

unasked_window : (id : List ℕ) (past : List Event) → is_asked id past ≡ false → is_full id past ≡ false
unasked_window id past h = ap (λ times. nat_le STARTS
    (length (filter (λ started. nat_lt (time_of past - started) WINDOW) times))) (unasked_times id past h)

-- so no entry is held
pub no_holds : (goal : Goal) (past : List Event) → Plain goal past → (id : List ℕ) → hold_times id past ≡ []
no_holds goal past plain id =
    plain_ind goal (λ p. hold_times id p ≡ []) (λ table distinct. refl) goes past plain.runs plain.mild where
      goes : (happening : Event) (p : List Event) → Comes goal happening p → hold_times id p ≡ []
          → hold_times id (happening ∷ p) ≡ []
      goes (NewTable table) p comes before = refl
      goes (Enter now grace) p comes before = refl
      goes (Held i) p comes before =
          grind (arith, unasked_window, MayHold, due_facts, IsFound, plain_distinct, coming_wanted)
      goes (_) p comes before = before

pub never_held : (goal : Goal) (past : List Event) → Plain goal past → (id : List ℕ) → is_held id past ≡ false
never_held goal past plain id =
    ap (list_any (λ began. nat_lt (time_of past) (began + HOLD))) (no_holds goal past plain id)

-- an entry that is to be started is started, not held
coming_starts : (goal : Goal) (past : List Event) → Plain goal past → (e : Entry) → is_coming past e ≡ true
    → start_steps e past ≡ start_of e ∷ []
coming_starts goal past plain e h = grind (arith, never_held, unasked_window)

-- each of these entries is the one that the table has for its id
abbrev pub AreFound : List Entry → List Entry → Type 0
AreFound table [] = Unit {0}
AreFound table (e ∷ es) = (entry_of e.id table ≡ Some e) × AreFound table es

found_behind : (e : Entry) (table es : List Entry) → list_any (has_id e.id) es ≡ false → AreFound table es
    → AreFound (e ∷ table) es
found_behind e table [] none all = tt
found_behind e table (x ∷ es) none all = grind (arith, same_id-sym, found_behind e table es)

pub found_all : (table : List Entry) → is_distinct table ≡ true → AreFound table table
found_all [] distinct = tt
found_all (e ∷ es) distinct = grind (arith, same_id-self, found_behind, found_all es)

-- whether entries of other ids are to be started does not change
still_coming : (id : List ℕ) (past : List Event) (es : List Entry) → list_any (has_id id) es ≡ false
    → filter (is_coming past) es ≡ filter (is_coming (Asked id Start ∷ past)) es
still_coming id past [] none = refl
still_coming id past (x ∷ es) none = grind (arith, same_id-sym, still_coming id past es)

-- the first due start is that of the first entry that is to be started
pub first_coming : (goal : Goal) (past : List Event) → Plain goal past → (id : List ℕ) (es : List Entry)
    → AreFound (table_of past) es → is_distinct es ≡ true → first (starts_among es past) ≡ Order id Start → map start_of
    (filter (is_coming past) es) ≡ Order id Start ∷ map start_of (filter (is_coming (Asked id Start ∷ past)) es)
first_coming goal past plain id [] found distinct is = absurd (cc)
first_coming goal past plain id (e ∷ es) found distinct is =
    split (is_coming past e) refl (first_coming goal past plain id es found.1 parts.1) where
      parts : (not (list_any (has_id e.id) es) ≡ true) × (is_distinct es ≡ true)
      parts = and_parts (not (list_any (has_id e.id) es)) (is_distinct es) distinct

      behind : (owed : Bool) → first (cond owed [] (starts_among es past)) ≡ Order id Start
          → first (starts_among es past) ≡ Order id Start
      behind true h = absurd (cc)
      behind false h = h

      -- it is not to be started again afterwards
      still : (same asked now : Bool) → (not asked && now) ≡ false → (not (same || asked) && now) ≡ false
      still true asked now h = refl
      still false asked now h = h

      split : (b : Bool) → is_coming past e ≡ b
          → (first (starts_among es past) ≡ Order id Start → map start_of (filter (is_coming past) es) ≡ Order id Start
          ∷ map start_of (filter (is_coming (Asked id Start ∷ past)) es))
          → map start_of (filter (is_coming past) (e ∷ es))
          ≡ Order id Start ∷ map start_of (filter (is_coming (Asked id Start ∷ past)) (e ∷ es))
      split true coming rest =
          let starts : first
          (steps_if (can_start e past) (start_steps e past) ++ cond (is_owed e past) [] (starts_among es past))
          ≡ Order e.id
          Start = rw (coming_can goal past plain e found.0 true coming, coming_starts goal past plain e coming) refl in
          let own : Order e.id Start ≡ Order id Start = sym starts ∙ is in
          let same : e.id ≡ id = cc in
          let gone : is_coming (Asked id Start ∷ past) e ≡ false = ap (λ b. not (b || is_asked e.id past)
          && started_now e (stage_of past)) (ap (λ x. same_id x id) same ∙ same_id-self id) in
          ap (λ b. map start_of (cond b (e ∷ filter (is_coming past) es) (filter (is_coming past) es))) coming
          ∙ ap (λ x. Order x Start ∷ map start_of (filter (is_coming past) es)) same
          ∙ ap (λ xs. Order id Start ∷ map start_of xs) (still_coming id past es
          (ap (λ x. list_any (has_id x) es) (sym same) ∙ not-true (list_any (has_id e.id) es) parts.0))
          ∙ ap (λ b. Order id Start ∷ map start_of (cond b (e ∷ filter (is_coming (Asked id Start ∷ past)) es)
          (filter (is_coming (Asked id Start ∷ past)) es))) (sym gone)
      split false coming rest =
          let none : can_start e past ≡ false = coming_can goal past plain e found.0 false coming in
          let next : first (cond (is_owed e past) [] (starts_among es past)) ≡ Order id Start = ap (λ b. first
          (steps_if b (start_steps e past) ++ cond (is_owed e past) [] (starts_among es past))) (sym none) ∙ is in
          ap (λ b. map start_of (cond b (e ∷ filter (is_coming past) es) (filter (is_coming past) es))) coming
          ∙ rest (behind (is_owed e past) next)
          ∙ ap (λ b. Order id Start ∷ map start_of
          (cond b (e ∷ filter (is_coming (Asked id Start ∷ past)) es) (filter (is_coming (Asked id Start ∷ past)) es)))
          (sym (still (same_id e.id id) (is_asked e.id past) (started_now e (stage_of past)) coming))

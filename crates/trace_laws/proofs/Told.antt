-- What `told` reports: the answer under way to an order, and the child that init knows of afterwards.
use Rattle.trace_laws.proofs.Words.{◌≡◌, ◌≤◌, refl, sym, ◌∙◌, ap, subst, ℕ, Bool, true, false, not, ◌||◌, cond, List}
use Rattle.trace_laws.proofs.Words.{[], ◌∷◌, filter, find, length, Option, Some, None, is_some, arith, list_any}
use Rattle.trace_laws.proofs.Words.{option_map_or, false≢true, and_parts, nil_from_length, none-some, same_Some}
use Rattle.trace_laws.proofs.Words.{OrderKind, Start, Look, Term, Kill, Answer, same_id, answers, has_id, is_distinct}
use Rattle.trace_laws.proofs.Words.{NewTable, Asked, Birth, NoBirth, Reaped, Still, NoLook, Hit, Miss, Told, Goal}
use Rattle.trace_laws.proofs.Words.{Event, table_of, Child, is_child_of, is_child, has_child, open_of, undone_of}
use Rattle.trace_laws.proofs.Words.{is_untold}
use Rattle.trace_laws.proofs.Words.{is_quiet, newborn, unreaped_children, kept_children, known_children, is_order}
use Rattle.trace_laws.proofs.Words.{answered_of, child_after, has_startable_entry, may_come, is_sound, same_id-is}
use Rattle.trace_laws.proofs.Words.{same_id-self}
use Rattle.trace_laws.proofs.Words.{both_ways, or_either, any_filtered, any_less, any_none, find_none}
use Rattle.init_words.specs.declared.orders.Answer.TheVariants as answer
use Rattle.trace_laws.proofs.Tests.{is_order-is}
use Rattle.trace_laws.proofs.Orders.{cleared, undone_is_open, quiet_looks, told_same, told_other, reaped_other}
use Rattle.trace_laws.proofs.Orders.{told_known}
use Rattle.trace_laws.proofs.Dues.{MayStop}
use Rattle.trace_laws.proofs.Keeps.{start_undone, look_undone, sound_holds, sound_ind, asked_free, free_told}
use Rattle.trace_laws.proofs.Keeps.{entry_listed}
use Rattle.trace_laws.proofs.Births.{one_child}

-- the kept children of an id without an open Start are its known ones
pub kept_known : (goal : Goal) (past : List Event) → is_sound goal past ≡ true → (id : List ℕ) → is_order Start
    (open_of id past) ≡ false
    → filter (is_child_of id) (kept_children past) ≡ filter (is_child_of id) (known_children past)
kept_known goal past h = sound_ind goal (λ before. (id : List ℕ) → is_order Start (open_of id before) ≡ false
    → filter (is_child_of id) (kept_children before) ≡ filter (is_child_of id) (known_children before))
    (λ table distinct id free. refl) next past h where
      next : (happening : Event) (before : List Event) → may_come goal happening before ≡ true
          → is_sound goal before ≡ true
          → ((id : List ℕ) → is_order Start (open_of id before) ≡ false
          → filter (is_child_of id) (kept_children before) ≡ filter
          (is_child_of id) (known_children before)) → (id : List ℕ)
          → is_order Start (open_of id (happening ∷ before)) ≡ false
          → filter (is_child_of id) (kept_children (happening ∷ before))
          ≡ filter (is_child_of id) (known_children (happening ∷ before))
      next (Birth i n) before may sound same id free = at_id (same_id id i) refl where
        started : open_of i before ≡ Some Start
        started =
            undone_is_open i Start before (is_order-is Start (undone_of i before) (start_undone goal i n before may))

        at_id : (b : Bool) → same_id id i ≡ b
            → cond b (newborn i n before ∷ filter (is_child_of id) (kept_children before))
            (filter (is_child_of id) (kept_children before)) ≡ filter (is_child_of id) (known_children before)
        at_id true own = both_ways (is_order Start (open_of id before))
            (ap (λ x. is_order Start (open_of x before)) (same_id-is id i own) ∙ ap (is_order Start) started) free
        at_id false differ = same id free
      next (Told i) before may sound same id free = at_id (same_id id i) refl free where
        at_id : (b : Bool) → same_id id i ≡ b → is_order Start (cond b None (open_of id before)) ≡ false
            → filter (is_child_of id) (kept_children (Told i ∷ before))
            ≡ filter (is_child_of id) (known_children (Told i ∷ before))
        at_id true own free = told_same id i (unreaped_children before) (kept_children before) own
            ∙ sym (told_same id i (unreaped_children before) (known_children before) own)
        at_id false differ free =
            told_other id i (unreaped_children before) (kept_children before) differ ∙ same id free
            ∙ sym (told_other id i (unreaped_children before) (known_children before) differ)
      next (Asked i ask) before may sound same id free = at_id (same_id id i) refl free where
        at_id : (b : Bool) → same_id id i ≡ b → is_order Start (cond b (Some ask) (open_of id before)) ≡ false
            → filter (is_child_of id) (kept_children before) ≡ filter (is_child_of id) (known_children before)
        at_id true own free = same id (ap (λ x. is_order Start (open_of x before)) (same_id-is id i own)
            ∙ ap (is_order Start) (asked_free goal i ask before may))
        at_id false differ free = same id free
      next (_) before may sound same id free = same id free

one_answered : (b : Bool) (x : Answer) (id : List ℕ) (past : List Event) → is_some (answered_of id past)
    ≡ is_untold id past → is_some (cond b (Some x) (answered_of id past)) ≡ (b || is_untold id past)
one_answered true x id past same = refl
one_answered false x id past same = same

-- an answer is under way exactly if an act is untold
pub answered_untold : (id : List ℕ) (past : List Event) → is_some (answered_of id past) ≡ is_untold id past
answered_untold id [] = refl
answered_untold id (Told i ∷ past) = grind (arith, answered_untold id past)
answered_untold id (Birth i n ∷ past) = one_answered (same_id id i) (answer.Born n) id past (answered_untold id past)
answered_untold id (NoBirth i ∷ past) = one_answered (same_id id i) answer.NotBorn id past (answered_untold id past)
answered_untold id (Reaped i n status ∷ past) =
    one_answered (same_id id i) (answer.Ended status) id past (answered_untold id past)
answered_untold id (Still i ∷ past) = one_answered (same_id id i) answer.Alive id past (answered_untold id past)
answered_untold id (NoLook i ∷ past) = one_answered (same_id id i) answer.NoLook id past (answered_untold id past)
answered_untold id (Hit i ∷ past) = one_answered (same_id id i) answer.Hit id past (answered_untold id past)
answered_untold id (Miss i ∷ past) = one_answered (same_id id i) answer.Miss id past (answered_untold id past)
answered_untold id (_ ∷ past) = answered_untold id past

-- the order that is answered is open, and of the answer's kind
abbrev pub Answers : List ℕ → List Event → Answer → Type 0
Answers id past given = option_map_or (answers given) (open_of id past) false ≡ true

act_answers : (id i : List ℕ) (past : List Event) (x given : Answer) → Answers i past x
    → (answered_of id past ≡ Some given → Answers id past given)
    → cond (same_id id i) (Some x) (answered_of id past) ≡ Some given → Answers id past given
act_answers id i past x given here before h = at_id (same_id id i) refl h where
  at_id : (b : Bool) → same_id id i ≡ b → cond b (Some x) (answered_of id past) ≡ Some given → Answers id past given
  at_id true own h =
      let P : List ℕ → Type 0 = λ y. Answers y past x in
      subst (Answers id past) (same_Some x given h) (subst P (sym (same_id-is id i own)) here)
  at_id false differ h = before h

undone_answers : (id : List ℕ) (ask : OrderKind) (past : List Event) (x : Answer)
    → is_order ask (undone_of id past) ≡ true → answers x ask ≡ true → Answers id past x
undone_answers id ask past x h is = ap (λ o. option_map_or (answers x) o false)
    (undone_is_open id ask past (is_order-is ask (undone_of id past) h)) ∙ is

signal_answers : (id : List ℕ) (past : List Event) (x : Answer) → (is_order Term (undone_of id past)
    || is_order Kill (undone_of id past)) ≡ true → answers x Term ≡ true → answers x Kill ≡ true → Answers id past x
signal_answers id past x h term kill = or_either (is_order Term (undone_of id past)) (is_order Kill (undone_of id past))
    h (λ g. undone_answers id Term past x g term) (λ g. undone_answers id Kill past x g kill)

pub answers_open : (goal : Goal) (past : List Event) → is_sound goal past ≡ true → (id : List ℕ) (given : Answer)
    → answered_of id past ≡ Some given → option_map_or (answers given) (open_of id past) false ≡ true
answers_open goal past h = sound_ind goal (λ before. (id : List ℕ) (given : Answer) → answered_of id before ≡ Some given
    → Answers id before given) (λ table distinct id given is. absurd (none-some given is)) next past h where
      next : (happening : Event) (before : List Event) → may_come goal happening before ≡ true
          → is_sound goal before ≡ true
          → ((id : List ℕ) (given : Answer) → answered_of id before ≡ Some given → Answers id before given)
          → (id : List ℕ)
          (given : Answer) → answered_of id (happening ∷ before) ≡ Some given → Answers id (happening ∷ before) given
      next (Birth i n) before may sound rest id given is = act_answers id i before (answer.Born n) given
          (undone_answers i Start before (answer.Born n) (start_undone goal i n before may) refl) (rest id given) is
      next (NoBirth i) before may sound rest id given is = act_answers id i before answer.NotBorn given
          (undone_answers i Start before answer.NotBorn may refl) (rest id given) is
      next (Reaped i n status) before may sound rest id given is = act_answers id i before (answer.Ended status) given
          (undone_answers i Look before (answer.Ended status) (look_undone goal i n status before may).0 refl)
          (rest id given) is
      next (Still i) before may sound rest id given is =
          act_answers id i before answer.Alive given (undone_answers i Look before answer.Alive may refl)
          (rest id given) is
      next (NoLook i) before may sound rest id given is = act_answers id i before answer.NoLook given
          (undone_answers i Look before answer.NoLook may refl) (rest id given) is
      next (Hit i) before may sound rest id given is =
          act_answers id i before answer.Hit given (signal_answers i before answer.Hit may refl refl) (rest id given) is
      next (Miss i) before may sound rest id given is =
          act_answers id i before answer.Miss given (signal_answers i before answer.Miss may refl refl)
          (rest id given) is
      next (Told i) before may sound rest id given is = at_id (same_id id i) is where
        at_id : (b : Bool) → cond b None (answered_of id before) ≡ Some given
            → option_map_or (answers given) (cond b None (open_of id before)) false ≡ true
        at_id true is = absurd (none-some given is)
        at_id false is = rest id given is
      next (Asked i ask) before may sound rest id given is = at_id (same_id id i) refl where
        at_id : (b : Bool) → same_id id i ≡ b
            → option_map_or (answers given) (cond b (Some ask) (open_of id before)) false ≡ true
        at_id true own = both_ways (is_untold id before) (sym (answered_untold id before) ∙ ap is_some is)
            (free_told id before (sound_holds goal before sound).told
            (ap (λ x. open_of x before) (same_id-is id i own) ∙ asked_free goal i ask before may))
        at_id false differ = rest id given is
      next (_) before may sound rest id given is = rest id given is

-- the first child of an id is the same in two lists with the same children of it
abbrev first_of : List Child → Option Child
first_of [] = None
first_of (child ∷ children) = Some child

find_first : (p : Child → Bool) (xs : List Child) → find p xs ≡ first_of (filter p xs)
find_first p [] = refl
find_first p (x ∷ xs) = grind (arith, find_first p xs)

pub same_find : (p : Child → Bool) (xs ys : List Child) → filter p xs ≡ filter p ys → find p xs ≡ find p ys
same_find p xs ys same = find_first p xs ∙ ap first_of same ∙ sym (find_first p ys)

-- after the only child of an id is reaped, the id has none
reaped_none : (id : List ℕ) (n : ℕ) (xs : List Child) → length (filter (is_child_of id) xs) ≤ 1
    → list_any (is_child id n) xs ≡ true
    → list_any (is_child_of id) (filter (λ child. not (is_child id n child)) xs) ≡ false
reaped_none id n [] one there = refl
reaped_none id n (x ∷ xs) one there =
    grind (arith, any_none, nil_from_length, any_filtered, any_less, reaped_none id n xs)

-- `child_after` reads nothing of the past but the table
same_after : (id : List ℕ) (past before : List Event) (given : Answer) (child : Option Child)
    → table_of past ≡ table_of before → child_after id past given child ≡ child_after id before given child
same_after id past before given child same = grind arith

-- at a quiet point a new table does not matter either, since no Start is open
quiet_after : (id : List ℕ) (past before : List Event) (given : Answer) (child : Option Child) → is_quiet before ≡ true
    → Answers id before given → child_after id past given child ≡ child_after id before given child
quiet_after id past before (answer.Born n) child quiet open_start = started (open_of id before) refl open_start where
  started : {P : Type 0} (o : Option OrderKind) → open_of id before ≡ o
      → option_map_or (answers (answer.Born n)) o false ≡ true → P
  started None is h = absurd (false≢true h)
  started (Some Start) is h = absurd (false≢true (quiet_looks id Start before quiet is))
  started (Some Look) is h = absurd (false≢true h)
  started (Some Term) is h = absurd (false≢true h)
  started (Some Kill) is h = absurd (false≢true h)
quiet_after id past before _ child quiet open_start = refl

-- an act on an order changes the child of its own id as its answer says, and no other child
act_child : (id i : List ℕ) (x given : Answer) (before past : List Event) (child had there known_there : Option Child)
    → table_of past ≡ table_of before → (same_id id i ≡ true → there ≡ child_after id past x known_there)
    → (same_id id i ≡ false → (there ≡ child) × (known_there ≡ had))
    → (answered_of id before ≡ Some given → child ≡ child_after id before given had)
    → cond (same_id id i) (Some x) (answered_of id before) ≡ Some given → there ≡ child_after id past given known_there
act_child id i x given before past child had there known_there table own other rest h = grind arith

-- while an order of the id is not carried out, its unreaped child is its known child
undone_child : (goal : Goal) (i : List ℕ) (ask : OrderKind) (past : List Event) → is_sound goal past ≡ true
    → is_order ask (undone_of i past) ≡ true → (id : List ℕ) → same_id id i ≡ true
    → find (is_child_of id) (unreaped_children past) ≡ find (is_child_of id) (known_children past)
undone_child goal i ask past sound h id own = let P : List ℕ
    → Type 0 = λ x. find (is_child_of x) (unreaped_children past) ≡ find (is_child_of x) (known_children past) in
    subst P (sym (same_id-is id i own)) (sym (same_find (is_child_of i) (known_children past) (unreaped_children past)
    (told_known i past ((sound_holds goal past sound).done i ask (is_order-is ask (undone_of i past) h)))))

signal_child : (goal : Goal) (i : List ℕ) (past : List Event) → is_sound goal past ≡ true
    → (is_order Term (undone_of i past) || is_order Kill (undone_of i past)) ≡ true → (id : List ℕ)
    → same_id id i ≡ true → find (is_child_of id) (unreaped_children past) ≡ find (is_child_of id) (known_children past)
signal_child goal i past sound h id own = grind (arith, undone_child)

-- while an answer is under way, the unreaped child of the id is the one that the answer implies
pub answered_child : (goal : Goal) (past : List Event) → is_sound goal past ≡ true → (id : List ℕ) (given : Answer)
    → answered_of id past ≡ Some given
    → find (is_child_of id) (unreaped_children past)
    ≡ child_after id past given (find (is_child_of id) (known_children past))
answered_child goal past h = sound_ind goal (λ before. (id : List ℕ) (given : Answer) → answered_of id before
    ≡ Some given → find (is_child_of id) (unreaped_children before) ≡ child_after id before given (find (is_child_of id)
    (known_children before))) (λ table distinct id given is. absurd (none-some given is)) next past h where
      next : (happening : Event) (before : List Event) → may_come goal happening before ≡ true
          → is_sound goal before ≡ true
          → ((id : List ℕ) (given : Answer) → answered_of id before ≡ Some given
          → find (is_child_of id) (unreaped_children
          before) ≡ child_after id before given (find (is_child_of id) (known_children before)))
          → (id : List ℕ) (given : Answer)
          → answered_of id (happening ∷ before) ≡ Some given
          → find (is_child_of id) (unreaped_children (happening ∷ before))
          ≡ child_after id (happening ∷ before) given (find (is_child_of id) (known_children (happening ∷ before)))
      next (NewTable table) before may sound rest id given is = rest id given is
          ∙ sym (quiet_after id (NewTable table ∷ before) before given (find (is_child_of id) (known_children before))
          (and_parts (is_quiet before) (is_distinct table) may).0 (answers_open goal before sound id given is))
      next (Birth i n) before may sound rest id given is =
          act_child id i (answer.Born n) given before (Birth i n ∷ before)
          (find (is_child_of id) (unreaped_children before))
          (find (is_child_of id) (known_children before))
          (find (is_child_of id) (unreaped_children (Birth i n ∷ before)))
          (find (is_child_of id) (known_children before)) refl own (λ differ. (rw differ refl, refl)) (rest id given) is
        where
          own : same_id id i ≡ true → cond (same_id id i) (Some (newborn i n before))
              (find (is_child_of id) (unreaped_children before)) ≡ Some (newborn id n before)
          own same = rw same (ap (λ x. Some (newborn x n before)) (sym (same_id-is id i same)))
      next (Reaped i n status) before may sound rest id given is = act_child id i (answer.Ended status) given before
          (Reaped i n status ∷ before) (find (is_child_of id) (unreaped_children before))
          (find (is_child_of id) (known_children before))
          (find (is_child_of id) (unreaped_children (Reaped i n status ∷ before)))
          (find (is_child_of id) (known_children before)) refl own (λ differ. (
            same_find (is_child_of id) (unreaped_children (Reaped i n status ∷ before)) (unreaped_children before)
                (reaped_other id i n (unreaped_children before) differ),
            refl,
          )) (rest id given) is where
            own : same_id id i ≡ true → find (is_child_of id) (unreaped_children (Reaped i n status ∷ before)) ≡ None
            own same =
                ap (λ x. find (is_child_of x) (unreaped_children (Reaped i n status ∷ before))) (same_id-is id i same)
                ∙ find_none (is_child_of i) (unreaped_children (Reaped i n status ∷ before)) (reaped_none i n
                (unreaped_children before) (one_child goal before sound i) (look_undone goal i n status before may).1)
      next (NoBirth i) before may sound rest id given is =
          act_child id i answer.NotBorn given before (NoBirth i ∷ before)
          (find (is_child_of id) (unreaped_children before)) (find (is_child_of id) (known_children before))
          (find (is_child_of id) (unreaped_children before)) (find (is_child_of id) (known_children before)) refl
          (undone_child goal i Start before sound may id) (λ differ. (refl, refl)) (rest id given) is
      next (Still i) before may sound rest id given is = act_child id i answer.Alive given before (Still i ∷ before)
          (find (is_child_of id) (unreaped_children before)) (find (is_child_of id) (known_children before))
          (find (is_child_of id) (unreaped_children before)) (find (is_child_of id) (known_children before)) refl
          (undone_child goal i Look before sound may id) (λ differ. (refl, refl)) (rest id given) is
      next (NoLook i) before may sound rest id given is = act_child id i answer.NoLook given before (NoLook i ∷ before)
          (find (is_child_of id) (unreaped_children before)) (find (is_child_of id) (known_children before))
          (find (is_child_of id) (unreaped_children before)) (find (is_child_of id) (known_children before)) refl
          (undone_child goal i Look before sound may id) (λ differ. (refl, refl)) (rest id given) is
      next (Hit i) before may sound rest id given is = act_child id i answer.Hit given before (Hit i ∷ before)
          (find (is_child_of id) (unreaped_children before)) (find (is_child_of id) (known_children before))
          (find (is_child_of id) (unreaped_children before)) (find (is_child_of id) (known_children before)) refl
          (signal_child goal i before sound may id) (λ differ. (refl, refl)) (rest id given) is
      next (Miss i) before may sound rest id given is = act_child id i answer.Miss given before (Miss i ∷ before)
          (find (is_child_of id) (unreaped_children before)) (find (is_child_of id) (known_children before))
          (find (is_child_of id) (unreaped_children before)) (find (is_child_of id) (known_children before)) refl
          (signal_child goal i before sound may id) (λ differ. (refl, refl)) (rest id given) is
      next (Told i) before may sound rest id given is = cleared (same_id id i) (answered_of id before) given (λ differ
          under. rest id given under
          ∙ ap (child_after id before given) (sym (same_find (is_child_of id) (known_children (Told i
          ∷ before)) (known_children before)
          (told_other id i (unreaped_children before) (known_children before) differ)))
          ∙ sym
          (same_after id (Told i ∷ before) before given
          (find (is_child_of id) (known_children (Told i ∷ before))) refl)) is
      next happening before may sound rest id given is = rest id given is
          ∙ sym (same_after id (happening ∷ before) before given (find (is_child_of id) (known_children before)) refl)

-- the child that init knows of after a `told`
pub told_child : (goal : Goal) (past : List Event) → is_sound goal past ≡ true → (id : List ℕ) (given : Answer)
    → answered_of id past ≡ Some given → find (is_child_of id) (known_children (Told id ∷ past))
    ≡ child_after id past given (find (is_child_of id) (known_children past))
told_child goal past h id given is =
    same_find (is_child_of id) (known_children (Told id ∷ past)) (unreaped_children past)
    (told_same id id (unreaped_children past) (known_children past) (same_id-self id))
    ∙ answered_child goal past h id given is

-- a signal is due only to a known child; the entry of a birth is in the table
pub stop_known : (id : List ℕ) (ask : OrderKind) (past : List Event) → MayStop id ask past
    → has_child id (known_children past) ≡ true
stop_known id ask past may = may.within (is_child_of id) may.own

pub placed_listed : (id : List ℕ) (past : List Event) → has_startable_entry id past ≡ true
    → list_any (has_id id) (table_of past) ≡ true
placed_listed id past h = grind (arith, entry_listed)

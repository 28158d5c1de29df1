-- The children that a host holds are the unreaped children of its trace, and its answers are possible.
use Rattle.supervisor.proofs.EdgeWords.{arith, ◌≡◌, refl, sym, ◌∙◌, ap, ap₂, subst, ℕ, Bool, true, false, not, ◌==◌}
use Rattle.supervisor.proofs.EdgeWords.{◌&&◌}
use Rattle.supervisor.proofs.EdgeWords.{◌||◌, cond, List, [], ◌∷◌, ◌++◌, map, filter, length, reverse, append-nil}
use Rattle.supervisor.proofs.EdgeWords.{eq-eqb}
use Rattle.supervisor.proofs.EdgeWords.{Some, None, Ok, Err, list_any, AllByRecursion, option_map_or, false≢true}
use Rattle.supervisor.proofs.EdgeWords.{and_parts}
use Rattle.supervisor.proofs.EdgeWords.{and_from, or_left, or_right, or_parts, or_from, eqb-true, false_from_ne_true}
use Rattle.supervisor.proofs.EdgeWords.{reverse-append, list_any-append, Answer, OrderKind, answers, same_ask, Status}
use Rattle.supervisor.proofs.EdgeWords.{texts_of, are_readable, table_of_texts, same_id-is, same_id-self, same_id-sym}
use Rattle.supervisor.proofs.EdgeWords.{both_ways, and_false, not_from, any_filtered, all_filter, passing, Goal, Event}
use Rattle.supervisor.proofs.EdgeWords.{Child, is_child, has_number, unreaped_children, is_dead, is_living, open_of}
use Rattle.supervisor.proofs.EdgeWords.{undone_of, is_untold, is_order, Start, Signal, Late, Clock, TakeBytes}
use Rattle.supervisor.proofs.EdgeWords.{ReadTables}
use Rattle.supervisor.proofs.EdgeWords.{Carry, Announce, Pause, Reply, Now, Later, HostCall, PartsRead, heard_of, Point}
use Rattle.supervisor.proofs.EdgeWords.{last_birth, acted, is_asked_for, answered, ordered, order_for, come, is_last}
use Rattle.supervisor.proofs.EdgeWords.{nudged_if, byte_after, bytes_after, reading, before_reading, before_handing}
use Rattle.supervisor.proofs.EdgeWords.{came_whole, handed_if, announced, after, point_after, may_happen, is_allowed}
use Rattle.std.proofs.lemmas.List.Elements.{filter-append}
use Rattle.init_words.specs.declared.levels.Level.TheVariants.{L0}
use Rattle.init_words.specs.declared.orders.Answer.TheVariants as answer
use Rattle.init_words.specs.declared.orders.OrderKind.TheVariants as ask
use Rattle.init_words.specs.declared.orders.SignalKind.{SignalKind}
use Rattle.init_words.specs.declared.orders.SignalKind.TheVariants as signal
use Rattle.init_words.specs.Ids.{same_id}
use Rattle.trace_events.specs.declared.happenings.Handed.TheVariants as handed
use Rattle.trace_events.specs.declared.happenings.Happening.TheVariants as past
use Rattle.host_calls.specs.declared.calls.Call.TheVariants.{Look}
use Rattle.host_calls.specs.Held.{CallsLeaveHeld, HeldChildren, holds_child, holds_number, without_child}
use Rattle.host_calls.specs.Held.{StartChangesHeld, LookChangesHeld}
use Rattle.host_calls.specs.Held.{SignalChangesHeld, CallChangesHeld}
use Rattle.supervisor.specs.Held.{AreNew, unreaped_in_order}
use Rattle.core_model.proofs.Reading.{any_map}

all_then : {X : Type 0} (P Q : X → Type 0) → ((x : X) → P x → Q x) → (xs : List X) → AllByRecursion P xs
    → AllByRecursion Q xs
all_then P Q more [] all = tt
all_then P Q more (x ∷ xs) all = (more x all.0, all_then P Q more xs all.1)

all_both : {X : Type 0} (P Q R : X → Type 0) → ((x : X) → P x → Q x → R x) → (xs : List X) → AllByRecursion P xs
    → AllByRecursion Q xs → AllByRecursion R xs
all_both P Q R more [] ps qs = tt
all_both P Q R more (x ∷ xs) ps qs = (more x ps.0 qs.0, all_both P Q R more xs ps.1 qs.1)

any_agree : {X : Type 0} (p q : X → Bool) (xs : List X) → AllByRecursion (λ x. p x ≡ q x) xs
    → list_any p xs ≡ list_any q xs
any_agree p q [] all = refl
any_agree p q (x ∷ xs) all = ap₂ (λ a b. a || b) all.0 (any_agree p q xs all.1)

filter_agree_on : {X : Type 0} (p q : X → Bool) (xs : List X) → AllByRecursion (λ x. p x ≡ q x) xs
    → filter p xs ≡ filter q xs
filter_agree_on p q [] all = refl
filter_agree_on p q (x ∷ xs) all = ap₂ (λ b rest. cond b (x ∷ rest) rest) all.0 (filter_agree_on p q xs all.1)

filter_map_of : {X Y : Type 0} (f : X → Y) (p : Y → Bool) (xs : List X)
    → filter p (map f xs) ≡ map f (filter (λ x. p (f x)) xs)
filter_map_of f p [] = refl
filter_map_of {X} {Y} f p (x ∷ xs) = grind (arith, filter_map_of f p xs)

or_swap : (a b : Bool) → (a || (b || false)) ≡ (b || a)
or_swap true true = refl
or_swap true false = refl
or_swap false true = refl
or_swap false false = refl

any_reverse : {X : Type 0} (p : X → Bool) (xs : List X) → list_any p (reverse xs) ≡ list_any p xs
any_reverse p [] = refl
any_reverse p (x ∷ xs) = ap (list_any p) (reverse-append (x ∷ []) xs) ∙ list_any-append p (reverse xs) (x ∷ [])
    ∙ or_swap (list_any p (reverse xs)) (p x) ∙ ap (λ b. p x || b) (any_reverse p xs)

filter_reverse : {X : Type 0} (p : X → Bool) (xs : List X) → filter p (reverse xs) ≡ reverse (filter p xs)
filter_reverse p [] = refl
filter_reverse {X} p (x ∷ xs) = ap (filter p) (reverse-append (x ∷ []) xs) ∙ filter-append p (reverse xs) (x ∷ [])
    ∙ ap (λ ys. ys ++ filter p (x ∷ [])) (filter_reverse p xs) ∙ by (p x)
  where
    by : (b : Bool) → reverse (filter p xs) ++ cond b (x ∷ []) [] ≡ reverse (cond b (x ∷ filter p xs) (filter p xs))
    by true = sym (reverse-append (x ∷ []) (filter p xs))
    by false = append-nil (reverse (filter p xs))

-- the unreaped children by id and number, youngest first
abbrev pairs : List Event → HeldChildren
pairs so_far = map (λ (child : Child). (child.id, child.number)) (unreaped_children so_far)

-- the child has this id and number
abbrev is_pair : List ℕ → ℕ → List ℕ × ℕ → Bool
is_pair id n e = same_id id e.0 && n == e.1

-- no two children have the same number
abbrev Apart : HeldChildren → Type 0
Apart [] = Unit {0}
Apart (e ∷ es) = (list_any (λ x. e.1 == x.1) es ≡ false) × Apart es

number_self : (n : ℕ) → (n == n) ≡ true
number_self n = eq-eqb n n refl

apart_filter : (p : List ℕ × ℕ → Bool) (es : HeldChildren) → Apart es → Apart (filter p es)
apart_filter p [] apart = tt
apart_filter p (e ∷ es) apart = by (p e) (apart_filter p es apart.1)
  where
    by : (b : Bool) → Apart (filter p es) → Apart (cond b (e ∷ filter p es) (filter p es))
    by true rest = (
      false_from_ne_true (list_any (λ x. e.1 == x.1) (filter p es))
          (λ h. both_ways (list_any (λ x. e.1 == x.1) es) (any_filtered (λ x. e.1 == x.1) p es h) apart.0),
      rest,
    )
    by false rest = rest

-- if no child has the number, each has another one
none_numbered : (n : ℕ) (es : HeldChildren) → list_any (λ x. n == x.1) es ≡ false
    → AllByRecursion (λ x. (x.1 == n) ≡ false) es
none_numbered n [] none = grind arith
none_numbered n (e ∷ es) none = grind (arith, none_numbered n es)

-- the other children have other numbers than this one
others_numbered : (id : List ℕ) (n : ℕ) (es : HeldChildren) → Apart es → list_any (is_pair id n) es ≡ true
    → AllByRecursion (λ x. (x.1 == n) ≡ false) (filter (λ e. not (is_pair id n e)) es)
others_numbered id n [] apart there = absurd (false≢true there)
others_numbered id n (e ∷ es) apart there =
    by (is_pair id n e) refl there (λ more. others_numbered id n es apart.1 more)
  where
    by : (b : Bool) → is_pair id n e ≡ b → (b || list_any (is_pair id n) es) ≡ true → (list_any (is_pair id n) es ≡ true
        → AllByRecursion (λ x. (x.1 == n) ≡ false) (filter (λ x. not (is_pair id n x)) es))
        → AllByRecursion (λ x. (x.1 == n) ≡ false)
        (cond (not b) (e ∷ filter (λ x. not (is_pair id n x)) es) (filter (λ x. not (is_pair id n x)) es))
    by true is there later =
        let own : n ≡ e.1 = eqb-true n e.1 (and_parts (same_id id e.0) (n == e.1) is).1 in
        all_filter (λ x. (x.1 == n) ≡ false) (λ x. not (is_pair id n x)) es
        (none_numbered n es (subst (λ m. list_any (λ x. m == x.1) es ≡ false) (sym own) apart.0))
    by false is there later =
        let found = passing (is_pair id n) es there in
        let same : n ≡ found.item.1 =
        eqb-true n found.item.1 (and_parts (same_id id found.item.0) (n == found.item.1) found.passes).1 in
        let clash : (e.1 == n) ≡ true → list_any (λ x. e.1 == x.1) es ≡ true =
        λ h. found.within (λ x. e.1 == x.1) (subst (λ m. (e.1 == m) ≡ true) same h) in
        (false_from_ne_true (e.1 == n) (λ h. both_ways (list_any (λ x. e.1 == x.1) es) (clash h) apart.0), later there)

-- a child that is held is alive
living_there : (id : List ℕ) (n : ℕ) (so_far : List Event) (es : HeldChildren)
    → AllByRecursion (λ e. is_dead e.0 e.1 so_far ≡ false) es → list_any (is_pair id n) es ≡ true
    → list_any (λ e. n == e.1 && not (is_dead e.0 n so_far)) es ≡ true
living_there id n so_far [] live there = grind arith
living_there id n so_far (e ∷ es) live there = grind (arith, living_there id n so_far es)

-- each child is the one that was last born for its id
abbrev AreLast : List Event → HeldChildren → Type 0
AreLast so_far es = AllByRecursion (λ e. last_birth e.0 so_far ≡ e.1) es

abbrev AreLive : List Event → HeldChildren → Type 0
AreLive so_far es = AllByRecursion (λ e. is_dead e.0 e.1 so_far ≡ false) es

-- so the child of an id is the one with its last number
last_pair : (id : List ℕ) (so_far : List Event) (es : HeldChildren) → AreLast so_far es
    → AllByRecursion (λ e. is_pair id (last_birth id so_far) e ≡ same_id id e.0) es
last_pair id so_far es last = all_then (λ e. last_birth e.0 so_far ≡ e.1)
    (λ e. is_pair id (last_birth id so_far) e ≡ same_id id e.0) (λ e is. by e is (same_id id e.0) refl) es last
  where
    by : (e : List ℕ × ℕ) → last_birth e.0 so_far ≡ e.1 → (b : Bool) → same_id id e.0 ≡ b
        → (b && last_birth id so_far == e.1) ≡ b
    by e is true own = ap (λ m. m == e.1) (ap (λ i. last_birth i so_far) (same_id-is id e.0 own) ∙ is) ∙ number_self e.1
    by e is false own = refl

-- what is preserved along the calls of a host that holds its children; some of it only if the numbers are new
record Kept (goal : Goal) (N : Type 0) (start : List Event) (held : HeldChildren) (so_far : List Event) : Type 0 where
  pub same : held ≡ unreaped_in_order so_far
  pub last : AreLast so_far (pairs so_far)
  pub live : N → AreLive so_far (pairs so_far)
  pub apart : N → Apart (pairs so_far)
  pub allowed : N → is_allowed goal start ≡ true → is_allowed goal so_far ≡ true

-- a happening that is not an act on a child changes no child
record Alike (goal : Goal) (so_far now : List Event) : Type 0 where
  pub children : unreaped_children now ≡ unreaped_children so_far
  pub last : (id : List ℕ) → last_birth id now ≡ last_birth id so_far
  pub dead : (id : List ℕ) (n : ℕ) → is_dead id n now ≡ is_dead id n so_far
  pub allowed : is_allowed goal so_far ≡ true → is_allowed goal now ≡ true

module _ (goal : Goal) (N : Type 0) where
  alike_self : (so_far : List Event) → Alike goal so_far so_far
  alike_self so_far = record { children = refl; last = λ id. refl; dead = λ id n. refl; allowed = λ h. h }

  alike_then : (a b c : List Event) → Alike goal a b → Alike goal b c → Alike goal a c
  alike_then a b c first second = record {
    children = second.children ∙ first.children;
    last = λ id. second.last id ∙ first.last id;
    dead = λ id n. second.dead id n ∙ first.dead id n;
    allowed = λ h. second.allowed (first.allowed h);
  }

  kept_alike : (start : List Event) (held : HeldChildren) (so_far now : List Event) → Kept goal N start held so_far
      → Alike goal so_far now → Kept goal N start held now
  kept_alike start held so_far now kept alike = grind (arith, all_then)

  -- a happening that is not a birth, death or reaping, and may come
  alike_one : (happening : Event) (so_far : List Event) → unreaped_children (happening ∷ so_far)
      ≡ unreaped_children so_far → ((id : List ℕ) → last_birth id (happening ∷ so_far) ≡ last_birth id so_far)
      → ((id : List ℕ) (n : ℕ) → is_dead id n (happening ∷ so_far) ≡ is_dead id n so_far)
      → may_happen goal happening so_far ≡ true → Alike goal so_far (happening ∷ so_far)
  alike_one happening so_far children last dead may = record {
    children = children;
    last = last;
    dead = dead;
    allowed = λ h. and_from (may_happen goal happening so_far) (is_allowed goal so_far) may h;
  }

  alike_asked : (id : List ℕ) (order : OrderKind) (so_far : List Event)
      → Alike goal so_far (past.Asked id order ∷ so_far)
  alike_asked id order so_far = alike_one (past.Asked id order) so_far refl (λ i. refl) (λ i n. refl) refl

  -- the order that was just given is not carried out yet
  just_asked : (id : List ℕ) (order : OrderKind) (so_far : List Event)
      → undone_of id (past.Asked id order ∷ so_far) ≡ Some order
  just_asked id order so_far = ap (λ b. cond b (Some order) (undone_of id so_far)) (same_id-self id)

  asked_for : (id : List ℕ) (order : OrderKind) (given : Answer) (so_far : List Event)
      → is_asked_for id given (past.Asked id order ∷ so_far) ≡ answers given order
  asked_for id order given so_far =
      ap (λ b. option_map_or (answers given) (cond b (Some order) (open_of id so_far)) false) (same_id-self id)

  -- the effect of an answer that was asked for on the trace
  answered_now : (id : List ℕ) (order : OrderKind) (given : Answer) (so_far : List Event) (b : Bool)
      → answers given order ≡ b → answered id given (past.Asked id order ∷ so_far)
      ≡ cond b (past.Told id ∷ acted id given (past.Asked id order ∷ so_far)) (past.Asked id order ∷ so_far)
  answered_now id order given so_far b is = ap (λ c. cond c (past.Told id ∷ acted id given
      (past.Asked id order ∷ so_far)) (past.Asked id order ∷ so_far)) (asked_for id order given so_far ∙ is)

  -- an answer that was not asked for has no effect
  unasked : (id : List ℕ) (order : OrderKind) (given : Answer) (so_far : List Event) → answers given order ≡ false
      → Alike goal so_far (ordered id order (Now given) so_far)
  unasked id order given so_far other =
      subst (Alike goal so_far) (sym (answered_now id order given so_far false other)) (alike_asked id order so_far)

  -- an act that is told and affects no child
  told_act : (id : List ℕ) (order : OrderKind) (given : Answer) (act : Event) (so_far : List Event)
      → answers given order ≡ true → acted id given (past.Asked id order ∷ so_far) ≡ act ∷ past.Asked id order ∷ so_far
      → Alike goal (past.Asked id order ∷ so_far) (act ∷ past.Asked id order ∷ so_far) → is_untold id
      (act ∷ past.Asked id order ∷ so_far) ≡ true → Alike goal so_far (ordered id order (Now given) so_far)
  told_act id order given act so_far own is alike untold =
      let asked : List Event = past.Asked id order ∷ so_far in
      let told : Alike goal (act ∷ asked) (past.Told id ∷ act ∷ asked) =
      alike_one (past.Told id) (act ∷ asked) refl (λ i. refl) (λ i n. refl) untold in
      let all : Alike goal so_far (past.Told id ∷ act ∷ asked) = alike_then so_far asked (past.Told id ∷ act ∷ asked)
      (alike_asked id order so_far) (alike_then asked (act ∷ asked) (past.Told id ∷ act ∷ asked) alike told) in
      subst (Alike goal so_far)
      (sym (answered_now id order given so_far true own ∙ ap (λ acts. past.Told id ∷ acts) is)) all

  -- the system carried out the order
  on_order : (order : OrderKind) (id : List ℕ) (so_far : List Event) → same_ask order order ≡ true
      → is_order order (undone_of id (past.Asked id order ∷ so_far)) ≡ true
  on_order order id so_far same = ap (is_order order) (just_asked id order so_far) ∙ same

  own_untold : (id : List ℕ) (before : Bool) → (same_id id id || before) ≡ true
  own_untold id before = or_left (same_id id id) before (same_id-self id)

  not_born : (id : List ℕ) (so_far : List Event) → Alike goal so_far (ordered id ask.Start (Now answer.NotBorn) so_far)
  not_born id so_far = told_act id ask.Start answer.NotBorn (past.NoBirth id) so_far refl refl
      (alike_one (past.NoBirth id) (past.Asked id ask.Start ∷ so_far) refl (λ i. refl) (λ i n. refl)
      (on_order ask.Start id so_far refl)) (own_untold id (is_untold id (past.Asked id ask.Start ∷ so_far)))

  alive : (id : List ℕ) (so_far : List Event) → Alike goal so_far (ordered id ask.Look (Now answer.Alive) so_far)
  alive id so_far = told_act id ask.Look answer.Alive (past.Still id) so_far refl refl (alike_one (past.Still id)
      (past.Asked id ask.Look ∷ so_far) refl (λ i. refl) (λ i n. refl) (on_order ask.Look id so_far refl))
      (own_untold id (is_untold id (past.Asked id ask.Look ∷ so_far)))

  no_look : (id : List ℕ) (so_far : List Event) → Alike goal so_far (ordered id ask.Look (Now answer.NoLook) so_far)
  no_look id so_far = told_act id ask.Look answer.NoLook (past.NoLook id) so_far refl refl (alike_one (past.NoLook id)
      (past.Asked id ask.Look ∷ so_far) refl (λ i. refl) (λ i n. refl) (on_order ask.Look id so_far refl))
      (own_untold id (is_untold id (past.Asked id ask.Look ∷ so_far)))

  signalled : (id : List ℕ) (sent : SignalKind) (so_far : List Event) → (is_order ask.Term (undone_of id (past.Asked id
      (order_for sent) ∷ so_far)) || is_order ask.Kill (undone_of id (past.Asked id (order_for sent) ∷ so_far))) ≡ true
  signalled id sent so_far = grind (arith, or_left, on_order, or_right)

  hit_answers : (sent : SignalKind) → answers answer.Hit (order_for sent) ≡ true
  hit_answers sent = grind arith

  miss_answers : (sent : SignalKind) → answers answer.Miss (order_for sent) ≡ true
  miss_answers sent = grind arith

  hit : (id : List ℕ) (sent : SignalKind) (so_far : List Event)
      → Alike goal so_far (ordered id (order_for sent) (Now answer.Hit) so_far)
  hit id sent so_far = told_act id (order_for sent) answer.Hit (past.Hit id) so_far (hit_answers sent) refl (alike_one
      (past.Hit id) (past.Asked id (order_for sent) ∷ so_far) refl (λ i. refl) (λ i n. refl) (signalled id sent so_far))
      (own_untold id (is_untold id (past.Asked id (order_for sent) ∷ so_far)))

  miss : (id : List ℕ) (sent : SignalKind) (so_far : List Event)
      → Alike goal so_far (ordered id (order_for sent) (Now answer.Miss) so_far)
  miss id sent so_far = told_act id (order_for sent) answer.Miss (past.Miss id) so_far (miss_answers sent) refl
      (alike_one (past.Miss id) (past.Asked id (order_for sent) ∷ so_far) refl (λ i. refl) (λ i n. refl)
      (signalled id sent so_far)) (own_untold id (is_untold id (past.Asked id (order_for sent) ∷ so_far)))

  -- an answer to a signal of a kind that signals do not have
  other_signal : (id : List ℕ) (sent : SignalKind) (given : Answer) (so_far : List Event) → answers given ask.Term
      ≡ false → answers given ask.Kill ≡ false → Alike goal so_far (ordered id (order_for sent) (Now given) so_far)
  other_signal id signal.Term given so_far term kill = unasked id ask.Term given so_far term
  other_signal id signal.Kill given so_far term kill = unasked id ask.Kill given so_far kill

  -- the other calls
  byte_alike : (byte : ℕ) (p : Point) → Alike goal p.past (byte_after byte p).past
  byte_alike byte p = by (length (p.over ++ byte ∷ []) == 384)
    where
      by : (b : Bool) → Alike goal p.past
          (cond b (record p { over = []; past = past.Got (heard_of (p.over ++ byte ∷ [])) ∷ p.past })
          (record p { over = p.over ++ byte ∷ [] })).past
      by true = alike_one (past.Got (heard_of (p.over ++ byte ∷ []))) p.past refl (λ i. refl) (λ i n. refl) refl
      by false = alike_self p.past

  bytes_alike : (bytes : List ℕ) (p : Point) → Alike goal p.past (bytes_after bytes p).past
  bytes_alike [] p = alike_self p.past
  bytes_alike (byte ∷ bytes) p = alike_then p.past (byte_after byte p).past (bytes_after bytes (byte_after byte p)).past
      (byte_alike byte p) (bytes_alike bytes (byte_after byte p))

  reading_alike : (parts : PartsRead) (so_far : List Event) → Alike goal so_far (reading parts ∷ so_far)
  reading_alike (Ok parts) so_far = by (are_readable (texts_of parts))
    where
      by : (b : Bool)
          → Alike goal so_far (cond b (past.NewTable (table_of_texts (texts_of parts))) past.NotRead ∷ so_far)
      by true = alike_one (past.NewTable (table_of_texts (texts_of parts))) so_far refl (λ i. refl) (λ i n. refl) refl
      by false = alike_one past.NotRead so_far refl (λ i. refl) (λ i n. refl) refl
  reading_alike (Err fault) so_far = alike_one past.NotRead so_far refl (λ i. refl) (λ i n. refl) refl

  handed_alike : (b : Bool) (so_far : List Event) → Alike goal so_far (handed_if b so_far)
  handed_alike true so_far = alike_one (past.Handed handed.Whole) so_far refl (λ i. refl) (λ i n. refl) refl
  handed_alike false so_far = alike_self so_far

  nudged_alike : (b : Bool) (so_far : List Event) → Alike goal so_far (nudged_if b so_far)
  nudged_alike true so_far = alike_one past.Nudge so_far refl (λ i. refl) (λ i n. refl) refl
  nudged_alike false so_far = alike_self so_far

  -- the trace without a reading or a hand-over that came to nothing
  rest_alike : (happening : Event) (so_far : List Event) → unreaped_children (happening ∷ so_far) ≡ unreaped_children
      so_far → ((id : List ℕ) → last_birth id (happening ∷ so_far) ≡ last_birth id so_far) → ((id : List ℕ) (n : ℕ)
      → is_dead id n (happening ∷ so_far) ≡ is_dead id n so_far) → Alike goal (happening ∷ so_far) so_far
  rest_alike happening so_far children last dead = record {
    children = sym children;
    last = λ id. sym (last id);
    dead = λ id n. sym (dead id n);
    allowed = λ h. (and_parts (may_happen goal happening so_far) (is_allowed goal so_far) h).1;
  }

  before_alike : (so_far : List Event) → Alike goal so_far (before_reading so_far)
  before_alike (past.NewTable table ∷ so_far) = rest_alike (past.NewTable table) so_far refl (λ i. refl) (λ i n. refl)
  before_alike (past.NotRead ∷ so_far) = rest_alike past.NotRead so_far refl (λ i. refl) (λ i n. refl)
  before_alike [] = alike_self []
  before_alike (happening ∷ so_far) = alike_self (happening ∷ so_far)

  handing_alike : (so_far : List Event) → Alike goal so_far (before_handing so_far)
  handing_alike (past.Handed how ∷ so_far) = rest_alike (past.Handed how) so_far refl (λ i. refl) (λ i n. refl)
  handing_alike [] = alike_self []
  handing_alike (happening ∷ so_far) = alike_self (happening ∷ so_far)

  announced_alike : (happening : Event) (so_far : List Event) → Alike goal so_far (announced happening so_far)
  announced_alike past.NotRead so_far = alike_then so_far (before_reading so_far) (past.NotRead ∷ before_reading so_far)
      (before_alike so_far) (alike_one past.NotRead (before_reading so_far) refl (λ i. refl) (λ i n. refl) refl)
  announced_alike (past.Handed how) so_far =
      alike_then so_far (before_handing so_far) (past.Handed how ∷ before_handing so_far) (handing_alike so_far)
      (alike_one (past.Handed how) (before_handing so_far) refl (λ i. refl) (λ i n. refl) refl)
  announced_alike (past.Enter stage grace) so_far =
      alike_one (past.Enter stage grace) so_far refl (λ i. refl) (λ i n. refl) refl
  announced_alike (past.Call letter) so_far = alike_one (past.Call letter) so_far refl (λ i. refl) (λ i n. refl) refl
  announced_alike (past.Power kind) so_far = alike_one (past.Power kind) so_far refl (λ i. refl) (λ i n. refl) refl
  announced_alike (past.Hold id) so_far = alike_one (past.Hold id) so_far refl (λ i. refl) (λ i n. refl) refl
  announced_alike (past.Settle level) so_far = alike_one (past.Settle level) so_far refl (λ i. refl) (λ i n. refl) refl
  announced_alike (past.NewTable table) so_far = alike_self so_far
  announced_alike (past.Asked id order) so_far = alike_self so_far
  announced_alike (past.Birth id n) so_far = alike_self so_far
  announced_alike (past.NoBirth id) so_far = alike_self so_far
  announced_alike (past.Death n) so_far = alike_self so_far
  announced_alike (past.Reaped id n status) so_far = alike_self so_far
  announced_alike (past.Still id) so_far = alike_self so_far
  announced_alike (past.NoLook id) so_far = alike_self so_far
  announced_alike (past.Hit id) so_far = alike_self so_far
  announced_alike (past.Miss id) so_far = alike_self so_far
  announced_alike (past.Told id) so_far = alike_self so_far
  announced_alike (past.Clock time) so_far = alike_self so_far
  announced_alike past.Nudge so_far = alike_self so_far
  announced_alike (past.Got request) so_far = alike_self so_far

  -- a birth
  last_kept : (id : List ℕ) (n : ℕ) (so_far : List Event) (es : HeldChildren)
      → list_any (λ e. same_id id e.0) es ≡ false → AreLast so_far es → AreLast (past.Birth id n ∷ so_far) es
  last_kept id n so_far [] none last = tt
  last_kept id n so_far (e ∷ es) none last =
      let parts = or_parts (same_id id e.0) (list_any (λ x. same_id id x.0) es) none in (
        ap (λ b. cond b n (last_birth e.0 so_far)) (same_id-sym e.0 id ∙ parts.0) ∙ last.0,
        last_kept id n so_far es parts.1 last.1,
      )

  born : (start : List Event) (held : HeldChildren) (id : List ℕ) (n : ℕ) (so_far : List Event)
      → Kept goal N start held so_far → holds_child id held ≡ false → (N → holds_number n held ≡ false)
      → Kept goal N start (held ++ (id, n) ∷ []) (ordered id ask.Start (Now (answer.Born n)) so_far)
  born start held id n so_far kept unheld unnumbered =
      let asked : List Event = past.Asked id ask.Start ∷ so_far in
      let es : HeldChildren = pairs so_far in
      let there : list_any (λ e. same_id id e.0) es ≡ false =
      sym (any_reverse (λ e. same_id id e.0) es) ∙ ap (holds_child id) (sym kept.same) ∙ unheld in
      let numbered : N → list_any (λ e. n == e.1) es ≡ false =
      λ numbers. sym (any_reverse (λ e. n == e.1) es) ∙ ap (holds_number n) (sym kept.same) ∙ unnumbered numbers in
      let listed : N → list_any (has_number n) (unreaped_children so_far) ≡ false = λ numbers. sym (any_map
      (λ (child : Child). (child.id, child.number)) (λ e. n == e.1) (unreaped_children so_far)) ∙ numbered numbers in
      let own : last_birth id (past.Birth id n ∷ so_far) ≡ n =
      ap (λ b. cond b n (last_birth id so_far)) (same_id-self id) in
      let lives : is_dead id n (past.Birth id n ∷ so_far) ≡ false =
      ap₂ (λ a b. not (a && b) && is_dead id n so_far) (same_id-self id) (number_self n) in
      let may : N → may_happen goal (past.Birth id n) asked ≡ true = λ numbers. and_from
      (is_order ask.Start (undone_of id asked)) (not (list_any (has_number n) (unreaped_children so_far))) (on_order
      ask.Start id so_far refl) (not_from (list_any (has_number n) (unreaped_children so_far)) (listed numbers)) in
      let told : may_happen goal (past.Told id) (past.Birth id n ∷ asked) ≡ true = own_untold id (is_untold id asked) in
      let behind : Kept goal N start (held ++ (id, n) ∷ []) (past.Told id ∷ past.Birth id n ∷ asked) = record {
        same = ap (λ xs. xs ++ (id, n) ∷ []) kept.same ∙ sym (reverse-append ((id, n) ∷ []) es);
        last = (own, last_kept id n so_far es there kept.last);
        live = λ numbers. (
          lives,
          all_then (λ e. is_dead e.0 e.1 so_far ≡ false) (λ e. is_dead e.0 e.1 (past.Birth id n ∷ so_far) ≡ false)
              (λ e h. ap (λ d. not (same_id e.0 id && e.1 == n) && d) h ∙ and_false (not (same_id e.0 id && e.1 == n)))
              es
              (kept.live numbers),
        );
        apart = λ numbers. (numbered numbers, kept.apart numbers);
        allowed = λ numbers h. and_from (may_happen goal (past.Told id) (past.Birth id n ∷ asked))
            (is_allowed goal (past.Birth id n ∷ asked)) told
            (and_from (may_happen goal (past.Birth id n) asked) (is_allowed goal asked) (may numbers)
            (kept.allowed numbers h));
      } in
      subst (Kept goal N start (held ++ (id, n) ∷ []))
      (sym (answered_now id ask.Start (answer.Born n) so_far true refl)) behind

  ended : (start : List Event) (held : HeldChildren) (id : List ℕ) (status : Status) (so_far : List Event)
      → Kept goal N start held so_far → holds_child id held ≡ true
      → Kept goal N start (without_child id held) (ordered id ask.Look (Now (answer.Ended status)) so_far)
  ended start held id status so_far kept there =
      let asked : List Event = past.Asked id ask.Look ∷ so_far in
      let n : ℕ = last_birth id so_far in
      let es : HeldChildren = pairs so_far in
      let dead : List Event = past.Death n ∷ asked in
      let own : AllByRecursion (λ e. is_pair id n e ≡ same_id id e.0) es = last_pair id so_far es kept.last in
      let found : list_any (is_pair id n) es ≡ true = any_agree (is_pair id n) (λ e. same_id id e.0) es own
      ∙ sym (any_reverse (λ e. same_id id e.0) es) ∙ ap (holds_child id) (sym kept.same) ∙ there in
      let listed : list_any (is_child id n) (unreaped_children so_far) ≡ true =
      sym (any_map (λ (child : Child). (child.id, child.number)) (is_pair id n) (unreaped_children so_far)) ∙ found in
      let lives : N → is_living n asked ≡ true = λ numbers. sym (any_map (λ (child : Child). (child.id, child.number))
      (λ e. n == e.1 && not (is_dead e.0 n so_far)) (unreaped_children so_far))
      ∙ living_there id n so_far es (kept.live numbers) found in
      let died : is_dead id n dead ≡ true = or_left (n == n) (is_dead id n asked) (number_self n) in
      let may : may_happen goal (past.Reaped id n status) dead ≡ true =
      and_from (is_order ask.Look (undone_of id asked) && list_any (is_child id n) (unreaped_children so_far))
      (is_dead id n dead) (and_from (is_order ask.Look (undone_of id asked))
      (list_any (is_child id n) (unreaped_children so_far)) (on_order ask.Look id so_far refl) listed) died in
      let told : may_happen goal (past.Told id) (past.Reaped id n status ∷ dead) ≡ true =
      own_untold id (is_untold id dead) in
      let left : pairs (past.Reaped id n status ∷ dead) ≡ filter (λ e. not (is_pair id n e)) es = sym (filter_map_of
      (λ (child : Child). (child.id, child.number)) (λ e. not (is_pair id n e)) (unreaped_children so_far)) in
      let others : filter (λ e. not (is_pair id n e)) es ≡ filter (λ e. not (same_id id e.0)) es = filter_agree_on
      (λ e. not (is_pair id n e)) (λ e. not (same_id id e.0)) es (all_then (λ e. is_pair id n e ≡ same_id id e.0)
      (λ e. not (is_pair id n e) ≡ not (same_id id e.0)) (λ e h. ap not h) es own) in
      let differ : N → AllByRecursion (λ e. (e.1 == n) ≡ false) (filter (λ e. not (is_pair id n e)) es) =
      λ numbers. others_numbered id n es (kept.apart numbers) found in
      let living : N → AreLive so_far (filter (λ e. not (is_pair id n e)) es) =
      λ numbers. all_filter (λ e. is_dead e.0 e.1 so_far ≡ false) (λ e. not (is_pair id n e)) es (kept.live numbers) in
      let behind : Kept goal N start (without_child id held) (past.Told id ∷ past.Reaped id n status ∷ dead) = record {
        same = ap (without_child id) kept.same ∙ filter_reverse (λ e. not (same_id id e.0)) es
            ∙ ap reverse (sym (left ∙ others));
        last = subst (AreLast so_far) (sym left)
            (all_filter (λ e. last_birth e.0 so_far ≡ e.1) (λ e. not (is_pair id n e)) es kept.last);
        live = λ numbers. subst (AreLive (past.Reaped id n status ∷ dead)) (sym left)
            (all_both (λ e. (e.1 == n) ≡ false) (λ e. is_dead e.0 e.1 so_far ≡ false)
            (λ e. is_dead e.0 e.1 dead ≡ false)
            (λ e other h. or_from (e.1 == n) (is_dead e.0 e.1 so_far) other h) (filter (λ e. not (is_pair id n e)) es)
            (differ numbers) (living numbers));
        apart = λ numbers. subst Apart (sym left) (apart_filter (λ e. not (is_pair id n e)) es (kept.apart numbers));
        allowed = λ numbers h. and_from (may_happen goal (past.Told id) (past.Reaped id n status ∷ dead))
            (is_allowed goal (past.Reaped id n status ∷ dead)) told
            (and_from (may_happen goal (past.Reaped id n status) dead) (is_allowed goal dead) may
            (and_from (may_happen goal (past.Death n) asked) (is_allowed goal asked) (lives numbers)
            (kept.allowed numbers h)));
      } in
      subst (Kept goal N start (without_child id held))
      (sym (answered_now id ask.Look (answer.Ended status) so_far true refl)) behind

  -- a call preserves this
  kept_same : (start : List Event) (held now : HeldChildren) (so_far behind : List Event) → now ≡ held
      → Kept goal N start held so_far → Alike goal so_far behind → Kept goal N start now behind
  kept_same start held now so_far behind is kept alike =
      subst (λ children. Kept goal N start children behind) (sym is) (kept_alike start held so_far behind kept alike)

  started : (start : List Event) (held now : HeldChildren) (id : List ℕ) (reply : Reply) (so_far : List Event)
      → Kept goal N start held so_far → StartChangesHeld held now id reply → ((n : ℕ) → reply ≡ Now (answer.Born n) → N
      → holds_number n held ≡ false) → Kept goal N start now (ordered id ask.Start reply so_far)
  started start held now id (Now (answer.Born n)) so_far kept made new =
      subst (λ children. Kept goal N start children (ordered id ask.Start (Now (answer.Born n)) so_far)) (sym made.1)
      (born start held id n so_far kept made.0 (new n refl))
  started start held now id (Now answer.NotBorn) so_far kept made new =
      kept_same start held now so_far (ordered id ask.Start (Now answer.NotBorn) so_far) made kept (not_born id so_far)
  started start held now id (Now (answer.Ended status)) so_far kept made new =
      kept_same start held now so_far (ordered id ask.Start (Now (answer.Ended status)) so_far) made kept
      (unasked id ask.Start (answer.Ended status) so_far refl)
  started start held now id (Now answer.Alive) so_far kept made new = kept_same start held now so_far
      (ordered id ask.Start (Now answer.Alive) so_far) made kept (unasked id ask.Start answer.Alive so_far refl)
  started start held now id (Now answer.NoLook) so_far kept made new = kept_same start held now so_far
      (ordered id ask.Start (Now answer.NoLook) so_far) made kept (unasked id ask.Start answer.NoLook so_far refl)
  started start held now id (Now answer.Hit) so_far kept made new = kept_same start held now so_far
      (ordered id ask.Start (Now answer.Hit) so_far) made kept (unasked id ask.Start answer.Hit so_far refl)
  started start held now id (Now answer.Miss) so_far kept made new = kept_same start held now so_far
      (ordered id ask.Start (Now answer.Miss) so_far) made kept (unasked id ask.Start answer.Miss so_far refl)
  started start held now id Later so_far kept made new =
      kept_same start held now so_far (past.Asked id ask.Start ∷ so_far) made kept (alike_asked id ask.Start so_far)

  looked : (start : List Event) (held now : HeldChildren) (id : List ℕ) (reply : Reply) (so_far : List Event) → Kept
      goal N start held so_far → LookChangesHeld held now id reply
      → Kept goal N start now (ordered id ask.Look reply so_far)
  looked start held now id (Now (answer.Ended status)) so_far kept made =
      subst (λ children. Kept goal N start children (ordered id ask.Look (Now (answer.Ended status)) so_far))
      (sym made.1) (ended start held id status so_far kept made.0)
  looked start held now id (Now answer.Alive) so_far kept made =
      kept_same start held now so_far (ordered id ask.Look (Now answer.Alive) so_far) made.1 kept (alive id so_far)
  looked start held now id (Now answer.NoLook) so_far kept made =
      kept_same start held now so_far (ordered id ask.Look (Now answer.NoLook) so_far) made kept (no_look id so_far)
  looked start held now id (Now (answer.Born n)) so_far kept made = kept_same start held now so_far
      (ordered id ask.Look (Now (answer.Born n)) so_far) made kept (unasked id ask.Look (answer.Born n) so_far refl)
  looked start held now id (Now answer.NotBorn) so_far kept made = kept_same start held now so_far
      (ordered id ask.Look (Now answer.NotBorn) so_far) made kept (unasked id ask.Look answer.NotBorn so_far refl)
  looked start held now id (Now answer.Hit) so_far kept made = kept_same start held now so_far
      (ordered id ask.Look (Now answer.Hit) so_far) made kept (unasked id ask.Look answer.Hit so_far refl)
  looked start held now id (Now answer.Miss) so_far kept made = kept_same start held now so_far
      (ordered id ask.Look (Now answer.Miss) so_far) made kept (unasked id ask.Look answer.Miss so_far refl)
  looked start held now id Later so_far kept made =
      kept_same start held now so_far (past.Asked id ask.Look ∷ so_far) made kept (alike_asked id ask.Look so_far)

  sent_to : (start : List Event) (held now : HeldChildren) (id : List ℕ) (sent : SignalKind) (reply : Reply)
      (so_far : List Event) → Kept goal N start held so_far → SignalChangesHeld held now id reply
      → Kept goal N start now (ordered id (order_for sent) reply so_far)
  sent_to start held now id sent (Now answer.Hit) so_far kept made = kept_same start held now so_far
      (ordered id (order_for sent) (Now answer.Hit) so_far) made.1 kept (hit id sent so_far)
  sent_to start held now id sent (Now answer.Miss) so_far kept made = kept_same start held now so_far
      (ordered id (order_for sent) (Now answer.Miss) so_far) made kept (miss id sent so_far)
  sent_to start held now id sent (Now (answer.Born n)) so_far kept made = kept_same start held now so_far (ordered id
      (order_for sent) (Now (answer.Born n)) so_far) made kept (other_signal id sent (answer.Born n) so_far refl refl)
  sent_to start held now id sent (Now answer.NotBorn) so_far kept made = kept_same start held now so_far (ordered id
      (order_for sent) (Now answer.NotBorn) so_far) made kept (other_signal id sent answer.NotBorn so_far refl refl)
  sent_to start held now id sent (Now (answer.Ended status)) so_far kept made =
      kept_same start held now so_far (ordered id (order_for sent) (Now (answer.Ended status)) so_far) made kept
      (other_signal id sent (answer.Ended status) so_far refl refl)
  sent_to start held now id sent (Now answer.Alive) so_far kept made = kept_same start held now so_far (ordered id
      (order_for sent) (Now answer.Alive) so_far) made kept (other_signal id sent answer.Alive so_far refl refl)
  sent_to start held now id sent (Now answer.NoLook) so_far kept made = kept_same start held now so_far (ordered id
      (order_for sent) (Now answer.NoLook) so_far) made kept (other_signal id sent answer.NoLook so_far refl refl)
  sent_to start held now id sent Later so_far kept made = kept_same start held now so_far
      (past.Asked id (order_for sent) ∷ so_far) made kept (alike_asked id (order_for sent) so_far)

  kept_after : (start : List Event) (call : HostCall) (held now : HeldChildren) (p : Point) → Kept goal N start held
      p.past → CallChangesHeld call held now
      → ((id command : List ℕ) (n : ℕ) → call ≡ Start id command (Now (answer.Born n))
      → N → holds_number n held ≡ false) → Kept goal N start now (after call p).past
  kept_after start (Start id command reply) held now p kept made new =
      started start held now id reply p.past kept made (λ n is. new id command n (ap (Start id command) is))
  kept_after start (Look id reply) held now p kept made new = looked start held now id reply p.past kept made
  kept_after start (Signal id sent reply) held now p kept made new =
      sent_to start held now id sent reply p.past kept made
  kept_after start (Late late) held now p kept made new = kept_same start held now p.past
      (nudged_if (is_last late p.lates) (come late p.past)) made.1 kept (subst (λ l. Alike goal p.past
      (nudged_if (is_last l p.lates) (come l p.past))) (sym made.0) (nudged_alike (is_last None p.lates) p.past))
  kept_after start (Clock (Ok time)) held now p kept made new = kept_same start held now p.past
      (past.Clock time ∷ p.past) made kept (alike_one (past.Clock time) p.past refl (λ i. refl) (λ i n. refl) refl)
  kept_after start (Clock (Err fault)) held now p kept made new =
      kept_same start held now p.past p.past made kept (alike_self p.past)
  kept_after start (TakeBytes room (Ok bytes)) held now p kept made new =
      kept_same start held now p.past (bytes_after bytes p).past made kept (bytes_alike bytes p)
  kept_after start (TakeBytes room (Err fault)) held now p kept made new =
      kept_same start held now p.past p.past made kept (alike_self p.past)
  kept_after start (ReadTables parts) held now p kept made new =
      kept_same start held now p.past (reading parts ∷ p.past) made kept (reading_alike parts p.past)
  kept_after start (Carry text back) held now p kept made new = kept_same start held now p.past
      (handed_if (came_whole text back) p.past) made kept (handed_alike (came_whole text back) p.past)
  kept_after start (Announce happening) held now p kept made new =
      kept_same start held now p.past (announced happening p.past) made kept (announced_alike happening p.past)
  kept_after start Pause held now p kept made new = kept_same start held now p.past p.past made kept (alike_self p.past)

  kept_all : (calls : List HostCall) (held : HeldChildren) (p : Point) → unreaped_children p.past ≡ []
      → CallsLeaveHeld calls held → (N → AreNew calls) → Kept goal N p.past held (point_after calls p).past
  kept_all [] held p none own new =
      let empty : pairs p.past ≡ [] =
      ap (λ children. map (λ (child : Child). (child.id, child.number)) children) none in
      record {
        same = own ∙ sym (ap reverse empty);
        last = subst (AreLast p.past) (sym empty) tt;
        live = λ numbers. subst (AreLive p.past) (sym empty) tt;
        apart = λ numbers. subst Apart (sym empty) tt;
        allowed = λ numbers h. h;
      }
  kept_all (call ∷ calls) held p none own new =
      let earlier = kept_all calls own.0 p none own.1 (λ numbers later before id command n children is were. new numbers
      (call ∷ later) before id command n children (ap (λ cs. call ∷ cs) is) were) in
      kept_after p.past call own.0 held (point_after calls p) earlier own.2
      (λ id command n is numbers. new numbers [] calls id command n own.0 (ap (λ c. c ∷ calls) is) own.1)

-- the earlier calls of a host that holds its children are those of such a host
own_earlier : (later earlier : List HostCall) (held : HeldChildren) → CallsLeaveHeld (later ++ earlier) held
    → (before : HeldChildren) × CallsLeaveHeld earlier before
own_earlier [] earlier held own = (held, own)
own_earlier (call ∷ later) earlier held own = own_earlier later earlier own.0 own.1

-- the law
pub held_possible : (goal : Goal) (later earlier : List HostCall) (held : HeldChildren) (p : Point)
    → unreaped_children p.past ≡ [] → CallsLeaveHeld (later ++ earlier) held → AreNew earlier
    → is_allowed goal p.past ≡ true → is_allowed goal (point_after earlier p).past ≡ true
held_possible goal later earlier held p none own new h =
    let (before, first) = own_earlier later earlier held own in
    (kept_all goal (AreNew earlier) earlier before p none first (λ numbers. numbers)).allowed new h

pub held_children : (calls : List HostCall) (held : HeldChildren) (p : Point) → unreaped_children p.past ≡ []
    → CallsLeaveHeld calls held → held ≡ unreaped_in_order (point_after calls p).past
held_children calls held p none own =
    (kept_all (record { level = L0; grace = 0 }) ⊥ calls held p none own (λ none_new. absurd none_new)).same

-- Forms that are read exactly: a value that is written is read as that value, and a word that is read is the one
-- written for its value.
use Rattle.core_text.proofs.CommonWords.{arith, ◌≡◌, ◌⊎◌, inl, inr, ℕ, Bool, true, false, cond, ◌&&◌, ◌==◌, List, []}
use Rattle.core_text.proofs.CommonWords.{◌∷◌, ◌++◌, Option, Some, None, refl, sym, ap, ◌∙◌, subst, and_parts, and_from}
use Rattle.core_text.proofs.CommonWords.{or_from, append_assoc, option_and_then_some, same_Some, cut}
use Rattle.core_text.proofs.CommonWords.{has_byte, cut-parts, cut-append, has_byte-append, same_id, same_id-is}
use Rattle.core_text.proofs.CommonWords.{same_id-self, option_map_some, both, both_some, bit, or_word, passes}
use Rattle.core_text.proofs.CommonWords.{checked_by, pair, pair_read, after_prefix, named_read, or_read, bit_read}
use Rattle.core_text.proofs.CommonWords.{first_bit, line_read, then_read, made_read}
use Rattle.std.specs.Option.{option_map}

pub record Form {X : Type 0} (ok : X → Bool) (write : X → List ℕ) (read : List ℕ → Option X) : Type 0 where
  pub back : (x : X) → ok x ≡ true → read (write x) ≡ Some x
  pub own : (word : List ℕ) (x : X) → read word ≡ Some x → (write x ≡ word) × (ok x ≡ true)

-- the byte does not occur in any such word
abbrev pub Lacks : {X : Type 0} → ℕ → (X → Bool) → (X → List ℕ) → Type 0
Lacks {X} mark ok write = (x : X) → ok x ≡ true → has_byte mark (write x) ≡ false

-- the same form with an equal test
pub retested : {X : Type 0} (ok test : X → Bool) (write : X → List ℕ) (read : List ℕ → Option X)
    → ((x : X) → ok x ≡ test x) → Form ok write read → Form test write read
retested ok test write read same form = record {
  back = λ x is. form.back x (same x ∙ is);
  own = λ word x is. let both = form.own word x is in (both.0, sym (same x) ∙ both.1);
}

-- a value that was read and passed the test
pub checked_some : {X P : Type 0} (test : X → Bool) (o : Option X) (x : X) → checked_by test o ≡ Some x
    → (o ≡ Some x → test x ≡ true → P) → P
checked_some test None x is next = absurd (cc)
checked_some {X = X} {P = P} test (Some y) x is next = by (test y) refl is
  where
    by : (b : Bool) → test y ≡ b → cond b (Some y) None ≡ Some x → P
    by true passed same = let this : y ≡ x = same_Some y x same in next same (ap test (sym this) ∙ passed)
    by false failed same = absurd (cc)

pub checked_form : {X : Type 0} (test ok : X → Bool) (write : X → List ℕ) (read : List ℕ → Option X)
    → Form ok write read → Form (λ x. ok x && test x) write (λ word. checked_by test (read word))
checked_form test ok write read form = record {
  back = λ x is. let parts = and_parts (ok x) (test x) is in rw (form.back x parts.0, parts.1) refl;
  own = λ word x is. checked_some test (read word) x is
      (λ found passed. let own = form.own word x found in (own.0, and_from (ok x) (test x) own.1 passed));
}

-- two words with a byte between them
pub pair_form : {X Y : Type 0} (mark : ℕ) (okx : X → Bool) (wx : X → List ℕ) (rx : List ℕ → Option X) (oky : Y → Bool)
    (wy : Y → List ℕ) (ry : List ℕ → Option Y)
    → Form okx wx rx → Lacks mark okx wx → Form oky wy ry
    → Form (λ (p : X × Y). okx p.0 && oky p.1) (λ (p : X × Y). wx p.0 ++ mark ∷ wy p.1) (pair_read mark rx ry)
pair_form {X} {Y} mark okx wx rx oky wy ry first lacks second = record {
  back = λ p is. let parts = and_parts (okx p.0) (oky p.1) is in
      rw (cut-append mark (wx p.0) (wy p.1) (lacks p.0 parts.0), first.back p.0 parts.0, second.back p.1 parts.1) refl;
  own = λ text p is. option_and_then_some (λ (parts : List ℕ × List ℕ). both pair (rx parts.0) (ry parts.1)) (cut mark
      text) p is (λ parts at found. both_some pair (rx parts.0) (ry parts.1) p found (λ x y xs ys same. subst (λ (q : X
      × Y). (wx q.0 ++ mark ∷ wy q.1 ≡ text) × (okx q.0 && oky q.1 ≡ true)) same (joined text parts x y at xs ys)));
}
  where
    joined : (text : List ℕ) (parts : List ℕ × List ℕ) (x : X) (y : Y) → cut mark text ≡ Some parts
        → rx parts.0 ≡ Some x → ry parts.1 ≡ Some y → (wx x ++ mark ∷ wy y ≡ text) × (okx x && oky y ≡ true)
    joined text parts x y at xs ys = grind (arith, cut-parts)

pub pair_lacks : {X Y : Type 0} (byte mark : ℕ) (okx : X → Bool) (wx : X → List ℕ) (oky : Y → Bool) (wy : Y → List ℕ)
    → (mark == byte) ≡ false → Lacks byte okx wx → Lacks byte oky wy
    → Lacks byte (λ (p : X × Y). okx p.0 && oky p.1) (λ (p : X × Y). wx p.0 ++ mark ∷ wy p.1)
pair_lacks byte mark okx wx oky wy other first second = λ p is.
    let parts = and_parts (okx p.0) (oky p.1) is in
    has_byte-append byte (wx p.0) (mark ∷ wy p.1) (first p.0 parts.0)
    (or_from (mark == byte) (has_byte byte (wy p.1)) other (second p.1 parts.1))

-- a word after a name and a byte
pub behind_some : {P : Type 0} (name : List ℕ) (mark : ℕ) (text rest : List ℕ) → after_prefix name mark text ≡ Some rest
    → (name ++ mark ∷ rest ≡ text → P) → P
behind_some {P} name mark text rest is next =
    option_and_then_some (λ (parts : List ℕ × List ℕ). cond (same_id parts.0 name) (Some parts.1) None)
    (cut mark text) rest is (λ parts at found. by parts at (same_id parts.0 name) refl found)
  where
    by : (parts : List ℕ × List ℕ) → cut mark text ≡ Some parts → (b : Bool) → same_id parts.0 name ≡ b
        → cond b (Some parts.1) None ≡ Some rest → P
    by parts at true same found =
        let this : parts.1 ≡ rest = same_Some parts.1 rest found in
        next (rw (← this, ← same_id-is parts.0 name same) (sym (cut-parts mark text parts.0 parts.1 at).0))
    by parts at false same found = absurd (cc)

pub behind_back : (name : List ℕ) (mark : ℕ) (rest : List ℕ) → has_byte mark name ≡ false
    → after_prefix name mark (name ++ mark ∷ rest) ≡ Some rest
behind_back name mark rest lacks = rw (cut-append mark name rest lacks, same_id-self name) refl

pub named_form : {X : Type 0} (name : List ℕ) (mark : ℕ) (ok : X → Bool) (write : X → List ℕ) (read : List ℕ → Option X)
    → has_byte mark name ≡ false → Form ok write read
    → Form ok (λ x. name ++ mark ∷ write x) (named_read name mark read)
named_form name mark ok write read lacks form = record {
  back = λ x is. rw (behind_back name mark (write x) lacks) (form.back x is);
  own = λ text x is. option_and_then_some read (after_prefix name mark text) x is
      (λ rest at found. behind_some name mark text rest at (λ whole.
      let own = form.own rest x found in (ap (λ t. name ++ mark ∷ t) own.0 ∙ whole, own.1)));
}

-- a form whose value is converted
pub made_form : {X Y : Type 0} (make : X → Y) (parts : Y → X) (okx : X → Bool) (oky : Y → Bool) (wx : X → List ℕ)
    (wy : Y → List ℕ) (read : List ℕ → Option X)
    → ((x : X) → parts (make x) ≡ x) → ((y : Y) → make (parts y) ≡ y) → ((y : Y) → okx (parts y) ≡ oky y)
    → ((y : Y) → wx (parts y) ≡ wy y) → Form okx wx read → Form oky wy (λ text. option_map make (read text))
made_form {X} {Y} make parts okx oky wx wy read undo redo tested written form = record {
  back = λ y is. rw (← written y, form.back (parts y) (tested y ∙ is), redo y) refl;
  own = λ text y is. option_map_some make (read text) y is (λ x at same.
      let own = form.own text x at in
      let this : parts y ≡ x = ap parts (sym same) ∙ undo x in
      (sym (written y) ∙ ap wx this ∙ own.0, sym (tested y) ∙ ap okx this ∙ own.1));
}

-- a word for no value, or another word
or_back : {X : Type 0} (none : List ℕ) (ok : X → Bool) (write : X → List ℕ) (read : List ℕ → Option X)
    → read none ≡ None → Form ok write read
    → (o : Option X) → passes ok o ≡ true → or_read none read (or_word none write o) ≡ Some o
or_back none ok write read h never form holds = grind (arith, same_id-self, same_id-is)

or_own : {X : Type 0} (none : List ℕ) (ok : X → Bool) (write : X → List ℕ) (read : List ℕ → Option X)
    → Form ok write read
    → (word : List ℕ) (o : Option X) → or_read none read word ≡ Some o
    → (or_word none write o ≡ word) × (passes ok o ≡ true)
or_own {X} none ok write read form word o is = by (same_id word none) refl is
  where
    by : (b : Bool) → same_id word none ≡ b → cond b (Some None) (option_map Some (read word)) ≡ Some o
        → (or_word none write o ≡ word) × (passes ok o ≡ true)
    by true same found =
        let this : None ≡ o = same_Some None o found in
        subst (λ p. (or_word none write p ≡ word) × (passes ok p ≡ true)) this (sym (same_id-is word none same), refl)
    by false same found = option_map_some Some (read word) o found
        (λ x at this. subst (λ p. (or_word none write p ≡ word) × (passes ok p ≡ true)) this (form.own word x at))

pub or_form : {X : Type 0} (none : List ℕ) (ok : X → Bool) (write : X → List ℕ) (read : List ℕ → Option X)
    → read none ≡ None → Form ok write read → Form (passes ok) (or_word none write) (or_read none read)
or_form none ok write read never form = record {
  back = or_back none ok write read never form;
  own = or_own none ok write read form;
}

pub or_lacks : {X : Type 0} (byte : ℕ) (none : List ℕ) (ok : X → Bool) (write : X → List ℕ)
    → has_byte byte none ≡ false → Lacks byte ok write → Lacks byte (passes ok) (or_word none write)
or_lacks byte none ok write lacks rest None is = lacks
or_lacks byte none ok write lacks rest (Some x) is = rest x is

-- a flag followed by others
bit_back : (flag : Bool) → bit_read (bit flag) ≡ Some flag
bit_back true = refl
bit_back false = refl

pub bit_lacks : (byte : ℕ) (flag : Bool) → byte ≡ 10 ⊎ byte ≡ 32 → (bit flag == byte) ≡ false
bit_lacks byte true is = elim is [ inl e ↦ rw e refl | inr e ↦ rw e refl ]
bit_lacks byte false is = elim is [ inl e ↦ rw e refl | inr e ↦ rw e refl ]

pub first_bit_form : {X : Type 0} (ok : X → Bool) (write : X → List ℕ) (read : List ℕ → Option X) → Form ok write read
    → Form (λ (p : Bool × X). ok p.1) (λ (p : Bool × X). bit p.0 ∷ write p.1) (first_bit read)
first_bit_form {X} ok write read form = record {
  back = λ p is. rw (bit_back p.0, form.back p.1 is) refl;
  own = owned;
}
  where
    owned : (word : List ℕ) (p : Bool × X) → first_bit read word ≡ Some p
        → (bit p.0 ∷ write p.1 ≡ word) × (ok p.1 ≡ true)
    owned word p is = grind arith

pub first_bit_lacks : {X : Type 0} (byte : ℕ) (ok : X → Bool) (write : X → List ℕ) → byte ≡ 10 ⊎ byte ≡ 32
    → Lacks byte ok write → Lacks byte (λ (p : Bool × X). ok p.1) (λ (p : Bool × X). bit p.0 ∷ write p.1)
first_bit_lacks byte ok write is rest =
    λ p good. or_from (bit p.0 == byte) (has_byte byte (write p.1)) (bit_lacks byte p.0 is) (rest p.1 good)

-- Forms at the start of a text.

pub record Front {X : Type 0} (ok : X → Bool) (write : X → List ℕ) (read : List ℕ → Option (X × List ℕ)) : Type 0 where
  pub back : (x : X) (rest : List ℕ) → ok x ≡ true → read (write x ++ rest) ≡ Some (x, rest)
  pub own : (text : List ℕ) (x : X) (rest : List ℕ) → read text ≡ Some (x, rest)
      → (write x ++ rest ≡ text) × (ok x ≡ true)

abbrev pub ended_line : List ℕ → List ℕ
ended_line line = line ++ 10 ∷ []

pub line_front : {X : Type 0} (ok : X → Bool) (write : X → List ℕ) (read : List ℕ → Option X) → Form ok write read
    → Lacks 10 ok write → Front ok (λ x. ended_line (write x)) (line_read read)
line_front ok write read h form =
    grind (arith, append_assoc, cut-append, option_and_then_some, option_map_some, cut-parts)

-- two forms, one after the other
pub then_front : {X Y : Type 0} (okx : X → Bool) (wx : X → List ℕ) (rx : List ℕ → Option (X × List ℕ)) (oky : Y → Bool)
    (wy : Y → List ℕ) (ry : List ℕ → Option (Y × List ℕ))
    → Front okx wx rx → Front oky wy ry
    → Front (λ (p : X × Y). okx p.0 && oky p.1) (λ (p : X × Y). wx p.0 ++ wy p.1) (then_read rx ry)
then_front {X} {Y} okx wx rx oky wy ry first second = record {
  back = λ p rest is. let parts = and_parts (okx p.0) (oky p.1) is in
      rw
      (append_assoc (wx p.0) (wy p.1) rest, first.back p.0 (wy p.1 ++ rest) parts.0, second.back p.1 rest parts.1) refl;
  own = λ text p rest is. option_and_then_some (λ (q : X × List ℕ). option_map {U = (X × Y) × List ℕ}
      (λ r. ((q.0, r.0), r.1)) (ry q.1)) (rx text) (p, rest) is (λ q at found.
      option_map_some {Y = (X × Y) × List ℕ} (λ r. ((q.0, r.0), r.1)) (ry q.1) (p, rest) found
      (λ r was same. subst (λ (s : (X × Y) × List ℕ). ((wx s.0.0 ++ wy s.0.1) ++ s.1 ≡ text)
      × (okx s.0.0 && oky s.0.1 ≡ true)) same (whole text q r at was)));
}
  where
    whole : (text : List ℕ) (q : X × List ℕ) (r : Y × List ℕ) → rx text ≡ Some q → ry q.1 ≡ Some r
        → ((wx q.0 ++ wy r.0) ++ r.1 ≡ text) × (okx q.0 && oky r.0 ≡ true)
    whole text q r at was =
        let one = first.own text q.0 q.1 at in
        let two = second.own q.1 r.0 r.1 was in (
          append_assoc (wx q.0) (wy r.0) r.1 ∙ ap (λ t. wx q.0 ++ t) two.0 ∙ one.0,
          and_from (okx q.0) (oky r.0) one.1 two.1,
        )

-- a form whose value is converted
pub made_front : {X Y : Type 0} (make : X → Y) (parts : Y → X) (okx : X → Bool) (oky : Y → Bool) (wx : X → List ℕ)
    (wy : Y → List ℕ) (read : List ℕ → Option (X × List ℕ))
    → ((x : X) → parts (make x) ≡ x) → ((y : Y) → make (parts y) ≡ y) → ((y : Y) → okx (parts y) ≡ oky y)
    → ((y : Y) → wx (parts y) ≡ wy y) → Front okx wx read → Front oky wy (λ text. made_read make (read text))
made_front {X} {Y} make parts okx oky wx wy read undo redo tested written front = record {
  back = λ y rest is. rw (← written y, front.back (parts y) rest (tested y ∙ is), redo y) refl;
  own = λ text y rest is. option_map_some {Y = Y × List ℕ} (λ (p : X × List ℕ). (make p.0, p.1)) (read text)
      (y, rest) is (λ p at same.
      subst (λ (q : Y × List ℕ). (wy q.0 ++ q.1 ≡ text) × (oky q.0 ≡ true)) same (whole text p at));
}
  where
    whole : (text : List ℕ) (p : X × List ℕ) → read text ≡ Some p
        → (wy (make p.0) ++ p.1 ≡ text) × (oky (make p.0) ≡ true)
    whole text p at =
        let own = front.own text p.0 p.1 at in
        let this = undo p.0 in (
          ap (λ t. t ++ p.1) (sym (written (make p.0)) ∙ ap wx this) ∙ own.0,
          sym (tested (make p.0)) ∙ ap okx this ∙ own.1,
        )

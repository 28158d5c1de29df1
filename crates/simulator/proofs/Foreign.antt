-- Texts that a core does not take over, and the texts made before.
use Rattle.simulator.proofs.Words.{◌≡◌, refl, sym, ap, ◌∙◌, subst, ℕ, ◌+◌, ◌-◌, ◌<◌, ◌≤◌, Bool, true, false, cond, List}
use Rattle.simulator.proofs.Words.{[], ◌∷◌, ◌++◌, map, length, get_or, take, drop, Option, Some, None, ◌⊎◌, inl, inr}
use Rattle.simulator.proofs.Words.{arith, length-drop, nat_le, nat_lt, unwrap_or, and_parts, cases_lt, leb-true}
use Rattle.simulator.proofs.Words.{ltb-true, get_or-map, get_or_append_left, length-map, map-append, take-append-drop}
use Rattle.simulator.proofs.Words.{SavedState, state_of, CoreState, after_handed_on, Objection, after_hand, has_next}
use Rattle.simulator.proofs.Words.{is_made, kept_texts, objection_handed, taken_of, handed_over_text, AreMade, HasTexts}
use Rattle.simulator.proofs.Words.{IsForeign, IsOfGeneration, IsTakenOver}
use Rattle.std.proofs.Common.{length-append}
use Rattle.std.proofs.Math.Seq.{get_or-append_seam}
use Rattle.trace_events.specs.declared.happenings.Handed.{Handed as HandOver}
use Rattle.trace_events.specs.declared.happenings.Handed.TheVariants as handed
use Rattle.core_model.specs.Rebuilding.{core_of}
use Rattle.core_model.specs.Rules.{IsFit}
use Rattle.core_model.proofs.Rebuilt.{core_is}
use Rattle.core_text.specs.Refused.{IsTextOf}
use Rattle.core_text.proofs.Ends.{no_prefix}
use Rattle.core_text.proofs.Prefixes.{one_state}

-- a proper prefix of a state text is not the text of a state
pub cut_foreign : (text : List ℕ) (bytes generation : ℕ) (own : SavedState) → IsTextOf text own → bytes < length text
    → IsForeign (take bytes text) generation
cut_foreign text bytes generation own says less other cut same =
    let none : drop bytes text ≡ [] = no_prefix other own (take bytes text) (drop bytes text) cut
    (subst (λ t. IsTextOf t own) (sym (take-append-drop bytes text)) says) in
    let left : length text - bytes ≡ 0 = sym (length-drop bytes text) ∙ ap length none in
    omega (arith, left, less)

-- the text of an older generation is not that of a state of this generation
pub older_foreign : (text : List ℕ) (older generation : ℕ) → IsOfGeneration text older → older < generation
    → IsForeign text generation
older_foreign text older generation (own, says, its) less other said same =
    let one : other ≡ own = one_state text other own said says in
    let equal : generation ≡ older = sym same ∙ ap (λ (s : SavedState). s.fields.generation) one ∙ its in
    omega (arith, equal, less)

-- a test whose objection did not come up holds
no_objection : (next holds : Bool) (given other : Objection)
    → cond next (cond holds None (Some given)) (Some other) ≡ None → holds ≡ true
no_objection true true given other none = refl
no_objection true false given other none = absurd (cc)
no_objection false true given other none = refl
no_objection false false given other none = absurd (cc)

pub may_cut : (made size bytes : ℕ) (how : HandOver) → how ≡ handed.Cut bytes → objection_handed made size how ≡ None
    → bytes < size
may_cut made size bytes how is none =
    let now : objection_handed made size (handed.Cut bytes) ≡ None =
    subst (λ h. objection_handed made size h ≡ None) is none in
    ltb-true bytes size (no_objection (has_next made) (nat_lt bytes size) _ _ now)

pub may_older : (made size generation : ℕ) (how : HandOver) → how ≡ handed.Older generation
    → objection_handed made size how ≡ None → is_made generation made ≡ true
may_older made size generation how is none =
    let now : objection_handed made size (handed.Older generation) ≡ None =
    subst (λ h. objection_handed made size h ≡ None) is none in
    no_objection (has_next made) (is_made generation made) _ _ now

-- a core is taken over from its own text, and no core from the text of no state of its generation
pub own_taken : (back : List ℕ) (generation : ℕ) (core : CoreState) (taken : Option CoreState) → IsFit core
    → IsTextOf back (state_of core) → core.fields.generation ≡ generation
    → IsTakenOver back generation taken → taken ≡ Some core
own_taken back generation core None fit says own none = absurd (none core fit says own)
own_taken back generation core (Some other) fit says own (said, kept, its) =
    ap (λ c. Some c) (sym (core_is other kept) ∙ ap core_of (one_state back (state_of other) (state_of core) said says)
    ∙ core_is core fit)

pub none_taken : (back : List ℕ) (generation : ℕ) (taken : Option CoreState) → IsForeign back generation
    → IsTakenOver back generation taken → taken ≡ None
none_taken back generation None foreign none = refl
none_taken back generation (Some core) foreign (said, kept, its) = absurd (foreign (state_of core) said its)

-- the core that continues is equal to the old one
pub same_core : (how : HandOver) (core new : CoreState) (taken : Option CoreState) → taken ≡ taken_of how core
    → new ≡ unwrap_or taken core → new ≡ core
same_core handed.Whole core new taken is goes = goes ∙ ap (λ t. unwrap_or t core) is
same_core (handed.Cut bytes) core new taken is goes = goes ∙ ap (λ t. unwrap_or t core) is
same_core (handed.Older generation) core new taken is goes = goes ∙ ap (λ t. unwrap_or t core) is
same_core handed.Failed core new taken is goes = goes ∙ ap (λ t. unwrap_or t core) is

-- a hand-over that did not fail hands the core on
pub handed_then : (how : HandOver) (core : CoreState) → (how ≡ handed.Failed → ⊥)
    → after_handed_on core ≡ after_hand how core
handed_then handed.Whole core some = refl
handed_then (handed.Cut bytes) core some = refl
handed_then (handed.Older generation) core some = refl
handed_then handed.Failed core some = absurd (some refl)

-- one more text is kept
pub kept_more : (how : HandOver) (core : CoreState) (made now : List (List ℕ)) (text : List ℕ)
    → (how ≡ handed.Failed → ⊥) → text ≡ handed_over_text core → now ≡ made ++ text ∷ []
    → now ≡ kept_texts how core made
kept_more handed.Whole core made now text some is more = more ∙ ap (λ t. made ++ t ∷ []) is
kept_more (handed.Cut bytes) core made now text some is more = more ∙ ap (λ t. made ++ t ∷ []) is
kept_more (handed.Older generation) core made now text some is more = more ∙ ap (λ t. made ++ t ∷ []) is
kept_more handed.Failed core made now text some is more = absurd (some refl)

module _ {X : Type 0} (f : X → List ℕ) where
  -- the text that was made of a generation
  pub made_is : (xs : List X) (older : ℕ) (x : X) (text : List ℕ) → is_made older (length xs) ≡ true
      → x ≡ get_or xs (older - 1) x → text ≡ f x → get_or (map f xs) (older - 1) [] ≡ text
  made_is xs older x text made at says =
      let most = leb-true older (length xs) (and_parts (nat_le 1 older) (nat_le older (length xs)) made).1 in
      let least = leb-true 1 older (and_parts (nat_le 1 older) (nat_le older (length xs)) made).0 in
      let within : older - 1 < length xs = omega (arith, most, least) in
      get_or-map f xs (older - 1) x [] within ∙ ap f (sym at) ∙ sym says

  pub kept_push : (xs ys : List X) (x : X) → ys ≡ xs ++ x ∷ [] → map f ys ≡ map f xs ++ f x ∷ []
  kept_push xs ys x is = ap (map f) is ∙ map-append f xs (x ∷ [])

  -- a text made before is not that of a state of this generation
  pub made_foreign : (xs : List X) (older generation : ℕ) (x : X) (text : List ℕ) → AreMade (map f xs)
      → is_made older (length xs) ≡ true → x ≡ get_or xs (older - 1) x → text ≡ f x → generation ≡ length xs + 1
      → IsForeign text generation
  made_foreign xs older generation x text are made at says next =
      let most = leb-true older (length xs) (and_parts (nat_le 1 older) (nat_le older (length xs)) made).1 in
      let least = leb-true 1 older (and_parts (nat_le 1 older) (nat_le older (length xs)) made).0 in
      let within : older - 1 < length xs = omega (arith, most, least) in
      let among : older - 1 < length (map f xs) = omega (arith, within, length-map xs f) in
      let is : get_or (map f xs) (older - 1) [] ≡ text =
      get_or-map f xs (older - 1) x [] within ∙ ap f (sym at) ∙ sym says in
      let one : older - 1 + 1 ≡ older = omega (arith, least) in
      older_foreign text older generation (subst (IsOfGeneration text) one
      (subst (λ t. IsOfGeneration t (older - 1 + 1)) is (are (older - 1) among))) (omega (arith, most, next))

  pub same_made : (xs ys : List X) → ys ≡ xs → AreMade (map f xs) → AreMade (map f ys)
  same_made xs ys same are = subst (λ zs. AreMade (map f zs)) (sym same) are

more_made : (texts : List (List ℕ)) (text : List ℕ) → AreMade texts → IsOfGeneration text (length texts + 1)
    → AreMade (texts ++ text ∷ [])
more_made texts text are own position less = split (cases_lt position (length texts))
  where
    split : (position < length texts) ⊎ (length texts ≤ position)
        → IsOfGeneration (get_or (texts ++ text ∷ []) position []) (position + 1)
    split (inl before) = subst (λ t. IsOfGeneration t (position + 1))
        (sym (get_or_append_left texts (text ∷ []) [] position before)) (are position before)
    split (inr behind) =
        let last : length texts ≡ position = omega (arith, behind, less, length-append texts (text ∷ [])) in
        subst (λ k. IsOfGeneration (get_or (texts ++ text ∷ []) k []) (k + 1)) last
        (subst (λ t. IsOfGeneration t (length texts + 1)) (sym (get_or-append_seam texts text [] [])) own)

pub more_texts : {X : Type 0} (f : X → List ℕ) (xs ys : List X) (x : X) (old new : ℕ) → ys ≡ xs ++ x ∷ []
    → HasTexts (map f xs) old → IsOfGeneration (f x) (old + 1) → new ≡ old + 1 → HasTexts (map f ys) new
more_texts f xs ys x old new is has own next =
    let one : map f ys ≡ map f xs ++ f x ∷ [] = ap (map f) is ∙ map-append f xs (x ∷ []) in
    record {
      are = subst AreMade (sym one)
          (more_made (map f xs) (f x) has.are (subst (λ n. IsOfGeneration (f x) (n + 1)) (sym has.count) own));
      count = ap length one ∙ length-append (map f xs) (f x ∷ []) ∙ omega (arith, has.count, next);
    }

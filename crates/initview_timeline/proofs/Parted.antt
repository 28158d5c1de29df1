-- The row of an id depends only on the marks that concern it, and these are divided among the rows.
use Rattle.initview_timeline.proofs.Words.{◌≡◌, ◌∙◌, refl, sym, ap, ℕ, Bool, true, false, ◌||◌, ◌&&◌, cond, min, nat_lt}
use Rattle.std.proofs.Common.{◌^◌, ◌-◌}
use Rattle.initview_timeline.proofs.Words.{List, [], ◌∷◌, ◌++◌, Some, filter, false≢true, same_id, same_id-is}
use Rattle.initview_timeline.proofs.Words.{Shown, Read, Entered, Settled, Born, NotBorn, Ended, Sent, Held}
use Rattle.initview_timeline.proofs.Words.{TimelineMark}
use Rattle.initview_timeline.proofs.Words.{Piece, is_for, marks_for, begins, next_begin, mark_bars, marks_bars}
use Rattle.initview_timeline.proofs.Words.{mark_signs, marks_signs, is_hold, is_held, shown_to, among, is_near}
use Rattle.initview_timeline.specs.Frames.{plus}
use Rattle.respawn_limit.specs.declared.TheConstants.{HOLD}

module _ (id : List ℕ) where
  own_shown : (marks : List TimelineMark) → marks_for (Some id) marks ≡ marks_for (Some id) (shown_to id marks)
  own_shown [] = refl
  own_shown (m ∷ ms) = split (is_for (Some id) m.what) refl (begins (Some id) m.what) (own_shown ms) where
    split : (a : Bool) → is_for (Some id) m.what ≡ a → (b : Bool)
        → marks_for (Some id) ms ≡ marks_for (Some id) (shown_to id ms)
        → cond a (m ∷ marks_for (Some id) ms) (marks_for (Some id) ms)
        ≡ marks_for (Some id) (cond (a || b) (m ∷ shown_to id ms) (shown_to id ms))
    split true is b rest = rw is (ap (λ t. m ∷ t) rest)
    split false is true rest = rw is rest
    split false is false rest = rest

  next_shown : (last : ℕ) (marks : List TimelineMark)
      → next_begin last (Some id) marks ≡ next_begin last (Some id) (shown_to id marks)
  next_shown last [] = refl
  next_shown last (m ∷ ms) = split (is_for (Some id) m.what) (begins (Some id) m.what) refl (next_shown last ms) where
    split : (a b : Bool) → begins (Some id) m.what ≡ b
        → next_begin last (Some id) ms ≡ next_begin last (Some id) (shown_to id ms)
        → cond b m.time (next_begin last (Some id) ms)
        ≡ next_begin last (Some id) (cond (a || b) (m ∷ shown_to id ms) (shown_to id ms))
    split true true is rest = rw is refl
    split false true is rest = rw is refl
    split true false is rest = rw is rest
    split false false is rest = rest

  bars_shown : (last : ℕ) (marks : List TimelineMark)
      → marks_bars last (Some id) marks ≡ marks_bars last (Some id) (shown_to id marks)
  bars_shown last [] = refl
  bars_shown last (m ∷ ms) = split (is_for (Some id) m.what) refl (begins (Some id) m.what) (bars_shown last ms) where
    bars : ℕ → List Piece
    bars next = mark_bars next m.time m.what

    split : (a : Bool) → is_for (Some id) m.what ≡ a → (b : Bool)
        → marks_bars last (Some id) ms ≡ marks_bars last (Some id) (shown_to id ms)
        → cond a (bars (next_begin last (Some id) ms)) [] ++ marks_bars last (Some id) ms
        ≡ marks_bars last (Some id) (cond (a || b) (m ∷ shown_to id ms) (shown_to id ms))
    split true is b rest = rw is (ap (λ n. bars n ++ marks_bars last (Some id) ms) (next_shown last ms)
        ∙ ap (λ t. bars (next_begin last (Some id) (shown_to id ms)) ++ t) rest)
    split false is true rest = rw is rest
    split false is false rest = rest

  signs_shown : (last : ℕ) (marks : List TimelineMark)
      → marks_signs last (Some id) marks ≡ marks_signs last (Some id) (shown_to id marks)
  signs_shown last [] = refl
  signs_shown last (m ∷ ms) = split (is_for (Some id) m.what) refl (begins (Some id) m.what) (signs_shown last ms) where
    signs : ℕ → List Piece
    signs next = mark_signs next m.time m.what

    split : (a : Bool) → is_for (Some id) m.what ≡ a → (b : Bool)
        → marks_signs last (Some id) ms ≡ marks_signs last (Some id) (shown_to id ms)
        → cond a (signs (next_begin last (Some id) ms)) [] ++ marks_signs last (Some id) ms
        ≡ marks_signs last (Some id) (cond (a || b) (m ∷ shown_to id ms) (shown_to id ms))
    split true is b rest = rw is (ap (λ n. signs n ++ marks_signs last (Some id) ms) (next_shown last ms)
        ∙ ap (λ t. signs (next_begin last (Some id) (shown_to id ms)) ++ t) rest)
    split false is true rest = rw is rest
    split false is false rest = rest

  -- a hold of the id is one of its own marks
  hold_own : (what : Shown) → is_for (Some id) what ≡ false → is_hold (Some id) what ≡ false
  hold_own (Held i) other = other
  hold_own _ other = refl

  held_shown : (end : ℕ) (marks : List TimelineMark)
      → is_held end (Some id) marks ≡ is_held end (Some id) (shown_to id marks)
  held_shown end [] = refl
  held_shown end (m ∷ ms) = split (is_for (Some id) m.what) refl (begins (Some id) m.what) (held_shown end ms) where
    lasts : ℕ → Bool
    lasts next = is_hold (Some id) m.what && nat_lt end (min (plus m.time HOLD) next)

    both : is_held end (Some id) ms ≡ is_held end (Some id) (shown_to id ms)
        → is_held end (Some id) (m ∷ ms) ≡ is_held end (Some id) (m ∷ shown_to id ms)
    both rest = ap (λ n. lasts n || is_held end (Some id) ms) (next_shown (2 ^ 64 - 1) ms)
        ∙ ap (λ t. lasts (next_begin (2 ^ 64 - 1) (Some id) (shown_to id ms)) || t) rest

    split : (a : Bool) → is_for (Some id) m.what ≡ a → (b : Bool)
        → is_held end (Some id) ms ≡ is_held end (Some id) (shown_to id ms)
        → is_held end (Some id) (m ∷ ms)
        ≡ is_held end (Some id) (cond (a || b) (m ∷ shown_to id ms) (shown_to id ms))
    split true is b rest = both rest
    split false is true rest = both rest
    split false is false rest =
        ap (λ h. h && nat_lt end (min (plus m.time HOLD) (next_begin (2 ^ 64 - 1) (Some id) ms))
        || is_held end (Some id) ms) (hold_own m.what is) ∙ rest

  -- two lists have the same marks that concern the id
  module _ (marks all : List TimelineMark) (same : shown_to id marks ≡ shown_to id all) where
    pub own_same : marks_for (Some id) marks ≡ marks_for (Some id) all
    own_same = own_shown marks ∙ ap (marks_for (Some id)) same ∙ sym (own_shown all)

    pub bars_same : (last : ℕ) → marks_bars last (Some id) marks ≡ marks_bars last (Some id) all
    bars_same last = bars_shown last marks ∙ ap (marks_bars last (Some id)) same ∙ sym (bars_shown last all)

    pub signs_same : (last : ℕ) → marks_signs last (Some id) marks ≡ marks_signs last (Some id) all
    signs_same last = signs_shown last marks ∙ ap (marks_signs last (Some id)) same ∙ sym (signs_shown last all)

    pub held_same : (end : ℕ) → is_held end (Some id) marks ≡ is_held end (Some id) all
    held_same end = held_shown end marks ∙ ap (is_held end (Some id)) same ∙ sym (held_shown end all)

  -- what concerns one of some ids is kept for all of them
  module _ (ids : List (List ℕ)) (one : among id ids ≡ true) where
    apart : (i : List ℕ) → among i ids ≡ false → same_id id i ≡ false
    apart i none = split (same_id id i) refl where
      split : (b : Bool) → same_id id i ≡ b → b ≡ false
      split true same = absurd (false≢true (sym none ∙ ap (λ x. among x ids) (sym (same_id-is id i same)) ∙ one))
      split false differ = refl

    far : (what : Shown) → is_near ids what ≡ false → (is_for (Some id) what || begins (Some id) what) ≡ false
    far Read none = absurd (false≢true (sym none))
    far (Entered stage) none = absurd (false≢true (sym none))
    far (Settled level) none = refl
    far (Born i number) none = rw (apart i none) refl
    far (NotBorn i) none = rw (apart i none) refl
    far (Ended i number status) none = rw (apart i none) refl
    far (Sent i signal) none = rw (apart i none) refl
    far (Held i) none = rw (apart i none) refl

    pub near_shown : (marks : List TimelineMark)
        → shown_to id (filter (λ (mark : TimelineMark). is_near ids mark.what) marks) ≡ shown_to id marks
    near_shown [] = refl
    near_shown (m ∷ ms) = split (is_near ids m.what) refl (near_shown ms) where
      near : List TimelineMark
      near = filter (λ (mark : TimelineMark). is_near ids mark.what) ms

      shows : Bool
      shows = is_for (Some id) m.what || begins (Some id) m.what

      split : (b : Bool) → is_near ids m.what ≡ b → shown_to id near ≡ shown_to id ms
          → shown_to id (cond b (m ∷ near) near) ≡ cond shows (m ∷ shown_to id ms) (shown_to id ms)
      split true is rest = ap (λ t. cond shows (m ∷ t) t) rest
      split false is rest = rest ∙ sym (ap (λ b. cond b (m ∷ shown_to id ms) (shown_to id ms)) (far m.what is))

-- one more id of a set that is being filled
pub one_more : (now was here rest total : Bool) → now ≡ (here || was) → (was || (here || rest)) ≡ total
    → (now || rest) ≡ total
one_more now true true rest total is so_far = rw is so_far
one_more now true false rest total is so_far = rw is so_far
one_more now false true rest total is so_far = rw is so_far
one_more now false false rest total is so_far = rw is so_far

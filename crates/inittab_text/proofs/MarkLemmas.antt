-- The marks of a runlevels field, and their characters.
use Rattle.inittab_text.proofs.Words.{◌≡◌, ℕ, ◌+◌, ◌<◌, ◌≤◌, Bool, true, false, cond, not, List, [], ◌∷◌, ◌++◌, length}
use Rattle.inittab_text.proofs.Words.{take, map, get_or, filter, Option, Some, None, refl, ap, ◌∙◌, arith, filter_map}
use Rattle.inittab_text.proofs.Words.{cons_option, or_parts, and_parts, not-true, not_from_false, not_from_true}
use Rattle.inittab_text.proofs.Words.{take_more, Mark, mark_code, mark_read, same_mark, names, without_repeats}
use Rattle.inittab_text.proofs.Words.{marks_of, with_mark, has_no_repeat}
use Rattle.std.proofs.lemmas.List.Elements.{filter_map-append, filter-append}
use Rattle.std.proofs.lemmas.Map.Views.{any-filter_same}
use Rattle.init_words.proofs.Same.{mark_read-code, same_mark-is, same_mark-flip, same_mark-apart}

-- the marks other than this one
others : Mark → List Mark → List Mark
others m ms = filter (λ other. not (same_mark m other)) ms

names-others : (m x : Mark) (ms : List Mark) → same_mark x m ≡ false → names m (others x ms) ≡ names m ms
unfolding others
names-others m x ms other =
    any-filter_same (same_mark m) (λ o. not (same_mark x o)) true
    (λ k is. let at : m ≡ k = same_mark-is m k is in rw (← at) (not_from_false (same_mark x m) other)) ms

names-others_self : (m : Mark) (ms : List Mark) → names m (others m ms) ≡ false
unfolding others
names-others_self m ms =
    any-filter_same (same_mark m) (λ o. not (same_mark m o)) false (λ k is. not_from_true (same_mark m k) is) ms

others-push_self : (x m : Mark) (ms : List Mark) → same_mark x m ≡ true → others x (ms ++ m ∷ []) ≡ others x ms
unfolding others
others-push_self x m ms is =
    filter-append (λ o. not (same_mark x o)) ms (m ∷ []) ∙ rw is (append_none (filter (λ o. not (same_mark x o)) ms))
  where
    append_none : (xs : List Mark) → xs ++ [] ≡ xs
    append_none [] = refl
    append_none (x ∷ xs) = ap (λ ys. x ∷ ys) (append_none xs)

others-push : (x m : Mark) (ms : List Mark) → same_mark x m ≡ false → others x (ms ++ m ∷ []) ≡ others x ms ++ m ∷ []
unfolding others
others-push x m ms other = filter-append (λ o. not (same_mark x o)) ms (m ∷ []) ∙ rw other refl

-- appending a mark and putting another one in front can be done in either order
push_same : (x m : Mark) (ms : List Mark) (n : Bool) → same_mark x m ≡ true
    → others x (cond n ms (ms ++ m ∷ [])) ≡ others x ms
push_same x m ms true is = refl
push_same x m ms false is = others-push_self x m ms is

push_other : (x m : Mark) (ms : List Mark) (n : Bool) → same_mark x m ≡ false
    → x ∷ others x (cond n ms (ms ++ m ∷ [])) ≡ cond n (x ∷ others x ms) ((x ∷ others x ms) ++ m ∷ [])
push_other x m ms true other = refl
push_other x m ms false other = ap (λ ys. x ∷ ys) (others-push x m ms other)

with_mark-front : (x m : Mark) (ms : List Mark) (s : Bool) → same_mark x m ≡ s
    → x ∷ others x (with_mark ms (Some m)) ≡ with_mark (x ∷ others x ms) (Some m)
with_mark-front x m ms true is = grind (arith, same_mark-flip, push_same)
with_mark-front x m ms false other =
    let back : same_mark m x ≡ false = same_mark-apart x m other in
    rw (back, names-others m x ms other) (push_other x m ms (names m ms) other)

pub without_repeats-push : (xs : List Mark) (m : Mark)
    → without_repeats (xs ++ m ∷ []) ≡ with_mark (without_repeats xs) (Some m)
unfolding others
without_repeats-push [] m = refl
without_repeats-push (x ∷ xs) m =
    ap (λ ys. x ∷ others x ys) (without_repeats-push xs m)
    ∙ with_mark-front x m (without_repeats xs) (same_mark x m) refl

with_option : (xs : List Mark) (o : Option Mark)
    → without_repeats (xs ++ cons_option o []) ≡ with_mark (without_repeats xs) o
with_option xs None = ap without_repeats (append_none xs)
  where
    append_none : (ys : List Mark) → ys ++ [] ≡ ys
    append_none [] = refl
    append_none (y ∷ ys) = ap (λ zs. y ∷ zs) (append_none ys)
with_option xs (Some m) = without_repeats-push xs m

-- the marks of a field and its next character
pub marks_more : (field : List ℕ) (i : ℕ) → i < length field
    → marks_of (take (i + 1) field) ≡ with_mark (marks_of (take i field)) (mark_read (get_or field i 0))
marks_more field i within =
    ap marks_of (take_more field i 0 within)
    ∙ ap without_repeats (filter_map-append mark_read (take i field) (get_or field i 0 ∷ []))
    ∙ with_option (filter_map mark_read (take i field)) (mark_read (get_or field i 0))

pub length-with_mark : (ms : List Mark) (o : Option Mark) → length (with_mark ms o) ≤ length ms + 1
length-with_mark ms None = omega arith
length-with_mark ms (Some m) = by_test (names m ms)
  where
    by_test : (b : Bool) → length (cond b ms (ms ++ m ∷ [])) ≤ length ms + 1
    by_test true = omega arith
    by_test false = length_one ms
      where
        length_one : (xs : List Mark) → length (xs ++ m ∷ []) ≤ length xs + 1
        length_one [] = omega arith
        length_one (x ∷ xs) = omega (arith, length_one xs)

length-filter_le : (p : Mark → Bool) (ms : List Mark) → length (filter p ms) ≤ length ms
length-filter_le p [] = grind arith
length-filter_le p (m ∷ ms) = grind (arith, length-filter_le p ms)

length-without_repeats : (ms : List Mark) → length (without_repeats ms) ≤ length ms
length-without_repeats [] = omega arith
length-without_repeats (m ∷ ms) =
    omega (arith, length-filter_le (λ other. not (same_mark m other)) (without_repeats ms), length-without_repeats ms)

length-filter_map_le : (field : List ℕ) → length (filter_map mark_read field) ≤ length field
length-filter_map_le [] = grind arith
length-filter_map_le (b ∷ field) = grind (arith, length-filter_map_le field)

pub length-marks_of : (field : List ℕ) → length (marks_of field) ≤ length field
length-marks_of field = omega (arith, length-without_repeats (filter_map mark_read field), length-filter_map_le field)

-- a filter adds no marks
names-filter : (m : Mark) (p : Mark → Bool) (ms : List Mark) → names m ms ≡ false → names m (filter p ms) ≡ false
names-filter m p [] lacks = refl
names-filter m p (x ∷ ms) lacks =
    let parts = or_parts (same_mark m x) (names m ms) lacks in
    by_test (p x) parts.0 (names-filter m p ms parts.1)
  where
    by_test : (b : Bool) → same_mark m x ≡ false → names m (filter p ms) ≡ false
        → names m (cond b (x ∷ filter p ms) (filter p ms)) ≡ false
    by_test true here rest = rw (here, rest) refl
    by_test false here rest = rest

has_no_repeat-filter : (p : Mark → Bool) (ms : List Mark) → has_no_repeat ms ≡ true → has_no_repeat (filter p ms) ≡ true
has_no_repeat-filter p [] once = grind (arith, names-filter, not-true)
has_no_repeat-filter p (x ∷ ms) once = grind (arith, has_no_repeat-filter p ms, names-filter, not-true)

pub has_no_repeat-without_repeats : (ms : List Mark) → has_no_repeat (without_repeats ms) ≡ true
unfolding others
has_no_repeat-without_repeats [] = refl
has_no_repeat-without_repeats (m ∷ ms) =
    let here : names m (others m (without_repeats ms)) ≡ false = names-others_self m (without_repeats ms) in
    rw (
      here,
      has_no_repeat-filter (λ other. not (same_mark m other)) (without_repeats ms) (has_no_repeat-without_repeats ms),
    ) refl

others-none : (m : Mark) (ms : List Mark) → names m ms ≡ false → others m ms ≡ ms
unfolding others
others-none m [] lacks = refl
others-none m (x ∷ ms) lacks =
    let parts = or_parts (same_mark m x) (names m ms) lacks in
    rw (parts.0, others-none m ms parts.1) refl

pub without_repeats-kept : (ms : List Mark) → has_no_repeat ms ≡ true → without_repeats ms ≡ ms
unfolding others
without_repeats-kept [] once = refl
without_repeats-kept (m ∷ ms) once =
    let parts = and_parts (not (names m ms)) (has_no_repeat ms) once in
    ap (λ ys. m ∷ others m ys) (without_repeats-kept ms parts.1)
    ∙ ap (λ ys. m ∷ ys) (others-none m ms (not-true (names m ms) parts.0))

read_again : (ms : List Mark) → filter_map mark_read (map mark_code ms) ≡ ms
read_again [] = refl
read_again (m ∷ ms) = rw (mark_read-code m, read_again ms) refl

-- the characters of marks without repeats are read as the same marks
pub marks_of-codes : (ms : List Mark) → has_no_repeat ms ≡ true → marks_of (map mark_code ms) ≡ ms
marks_of-codes ms once = ap without_repeats (read_again ms) ∙ without_repeats-kept ms once

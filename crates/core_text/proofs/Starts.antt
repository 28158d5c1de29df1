-- Times are read one by one, up to the maximum number.
use Rattle.core_text.proofs.CommonWords.{◌≡◌, ℕ, ◌<◌, ◌≤◌, true, false, nat_le, List, [], ◌∷◌, codes, ◌++◌, length}
use Rattle.core_text.proofs.CommonWords.{Option, Some, None, refl, sym, ap, ◌∙◌, arith, length-append, leb-true}
use Rattle.core_text.proofs.CommonWords.{false_from_ne_true, append_assoc, cut, pieces_of, pieces_of-cut}
use Rattle.core_text.proofs.CommonWords.{pieces_of-whole, both, same_id, STARTS, all_read, checked_by, starts_read}
use Rattle.core_text.proofs.CommonWords.{time_read}
use Rattle.std.specs.Option.{option_map}

-- these times, followed by those that were read
pub joined : List ℕ → Option (List ℕ) → Option (List ℕ)
joined xs o = option_map (λ ys. xs ++ ys) o

-- the times, if there are not too many
pub few : Option (List ℕ) → Option (List ℕ)
few all = checked_by (λ times. nat_le (length times) STARTS) all

pub times_of : List ℕ → Option (List ℕ)
times_of word = all_read time_read (pieces_of 44 word)

pub joined-nil : (o : Option (List ℕ)) → joined [] o ≡ o
unfolding joined
joined-nil None = refl
joined-nil (Some ys) = refl

one_more : (xs : List ℕ) (t : ℕ) (o : Option (List ℕ)) → joined xs (both ◌∷◌ (Some t) o) ≡ joined (xs ++ t ∷ []) o
unfolding joined
one_more xs t None = refl
one_more xs t (Some ys) = ap Some (sym (append_assoc xs (t ∷ []) ys))

pub times_of-cut : (word first more : List ℕ) → cut 44 word ≡ Some (first, more)
    → times_of word ≡ both ◌∷◌ (time_read first) (times_of more)
unfolding times_of
times_of-cut word first more is = ap (all_read time_read) (pieces_of-cut 44 word first more is)

pub times_of-last : (word : List ℕ) → cut 44 word ≡ None → times_of word ≡ both ◌∷◌ (time_read word) (Some [])
unfolding times_of
times_of-last word is = ap (all_read time_read) (pieces_of-whole 44 word is)

-- one more time was read
pub step : (word first more xs : List ℕ) (t : ℕ) (all : Option (List ℕ)) → cut 44 word ≡ Some (first, more)
    → time_read first ≡ Some t → joined xs (times_of word) ≡ all → joined (xs ++ t ∷ []) (times_of more) ≡ all
step word first more xs t all is read so = sym (one_more xs t (times_of more)) ∙ ap (λ o. joined xs
    (both ◌∷◌ o (times_of more))) (sym read) ∙ ap (joined xs) (sym (times_of-cut word first more is)) ∙ so

pub last : (word xs : List ℕ) (t : ℕ) (all : Option (List ℕ)) → cut 44 word ≡ None → time_read word ≡ Some t
    → joined xs (times_of word) ≡ all → Some (xs ++ t ∷ []) ≡ all
unfolding joined
last word xs t all is read so =
    ap (λ o. joined xs (both ◌∷◌ o (Some []))) (sym read) ∙ ap (joined xs) (sym (times_of-last word is)) ∙ so

-- a word that is not a time
pub no_time : (word first more xs : List ℕ) (all : Option (List ℕ)) → cut 44 word ≡ Some (first, more)
    → time_read first ≡ None → joined xs (times_of word) ≡ all → None ≡ few all
unfolding joined few
no_time word first more xs all is read so = rw (← so, times_of-cut word first more is, read) refl

pub no_last : (word xs : List ℕ) (all : Option (List ℕ)) → cut 44 word ≡ None → time_read word ≡ None
    → joined xs (times_of word) ≡ all → None ≡ few all
unfolding joined few
no_last word xs all is read so = rw (← so, times_of-last word is, read) refl

-- there are too many times
too_many : (times : List ℕ) → STARTS < length times → None ≡ few (Some times)
unfolding few
too_many times more =
    let over : nat_le (length times) STARTS ≡ false = false_from_ne_true (nat_le (length times) STARTS)
    (λ is. let few = leb-true (length times) STARTS is in omega arith) in
    rw over refl

many_by : (xs : List ℕ) (t : ℕ) (o all : Option (List ℕ)) → STARTS ≤ length xs → joined xs (both ◌∷◌ (Some t) o) ≡ all
    → None ≡ few all
unfolding joined few
many_by xs t None all full so = rw (← so) refl
many_by xs t (Some ys) all full so =
    rw (← so) (too_many (xs ++ t ∷ ys) (omega (arith, length-append xs (t ∷ ys), full)))

pub many : (word first more xs : List ℕ) (t : ℕ) (all : Option (List ℕ)) → cut 44 word ≡ Some (first, more)
    → time_read first ≡ Some t → STARTS ≤ length xs → joined xs (times_of word) ≡ all → None ≡ few all
many word first more xs t all is read full so =
    many_by xs t (times_of more) all full (ap (λ o. joined xs (both ◌∷◌ o (times_of more))) (sym read)
    ∙ ap (joined xs) (sym (times_of-cut word first more is)) ∙ so)

pub many_last : (word xs : List ℕ) (t : ℕ) (all : Option (List ℕ)) → cut 44 word ≡ None → time_read word ≡ Some t
    → STARTS ≤ length xs → joined xs (times_of word) ≡ all → None ≡ few all
many_last word xs t all is read full so =
    many_by xs t (Some []) all full
    (ap (λ o. joined xs (both ◌∷◌ o (Some []))) (sym read) ∙ ap (joined xs) (sym (times_of-last word is)) ∙ so)

-- there are not too many times
pub enough : (times : List ℕ) → length times ≤ STARTS → few (Some times) ≡ Some times
unfolding few
enough times is =
    let within : nat_le (length times) STARTS ≡ true = search (arith, is) in
    rw within refl

pub starts_few : (word : List ℕ) → same_id word (codes "-") ≡ false → starts_read word ≡ few (times_of word)
unfolding few times_of
starts_few word other = rw other refl

-- How the blocks of a byte list change when more bytes arrive.
use Rattle.initctl_frame.proofs.Words.{◌≡◌, ◌∙◌, ℕ, ℤ, zero, suc, ◌+◌, ◌-◌, ◌*◌, ◌/◌, ◌<◌, ◌≤◌, List, [], ◌∷◌, ◌++◌}
use Rattle.initctl_frame.proofs.Words.{length, take, drop, map, get_or, ap, ap₂, sym, refl, arith, append_assoc}
use Rattle.initctl_frame.proofs.Words.{append-nil, length-append, length-drop, length-take-le, ⊎_elim, take-append-drop}
use Rattle.initctl_frame.proofs.Words.{w32, All, flat_map, map-append, take-append-le, drop-append-le, drop-drop}
use Rattle.initctl_frame.proofs.Words.{take_all, take-take, get_or-drop, get_or-take, take-append-add, cast_signed}
use Rattle.initctl_frame.proofs.Words.{from_le_bytes, heard_of, heard_of_ints, int_at, blocks_of, requests_in_blocks}
use Rattle.initctl_frame.proofs.Words.{remainder_of}
use Rattle.initctl_frame.proofs.Words.{parts}
use Rattle.std.proofs.Common.{min}
use Rattle.std.proofs.lemmas.List.Concat.{flat_map-cons}
use Rattle.std.proofs.lemmas.List.Elements.{All-nil, All-cons}
use Rattle.std.proofs.lemmas.Bool.{cases_lt}

-- ---- parts of any size

-- bytes appended after the first n parts do not change these
parts-append : (size n : ℕ) (xs ys : List ℕ) → size * n ≤ length xs → parts size n (xs ++ ys) ≡ parts size n xs
parts-append size zero xs ys fits = refl
parts-append size (suc n) xs ys fits =
    let long : size ≤ length xs = omega (arith) in
    ap₂ (λ (part : List ℕ) (others : List (List ℕ)). part ∷ others) (take-append-le size xs ys long)
    (ap (parts size n) (drop-append-le size xs ys long)
    ∙ parts-append size n (drop size xs) ys (omega (arith, length-drop size xs)))

-- the first n + 1 parts are the first n and the next one
parts-last : (size n : ℕ) (xs : List ℕ) → parts size (suc n) xs ≡ parts size n xs ++ take size (drop (size * n) xs) ∷ []
parts-last size zero xs =
    let none : size * 0 ≡ 0 = omega arith in
    ap (λ (k : ℕ). take size (drop k xs) ∷ []) (sym none)
parts-last size (suc n) xs =
    let next : size + size * n ≡ size * suc n = omega arith in
    ap (λ (others : List (List ℕ)). take size xs ∷ others) (parts-last size n (drop size xs)
    ∙ ap (λ (ys : List ℕ). parts size n (drop size xs) ++ take size ys ∷ [])
    (drop-drop (size * n) size xs ∙ ap (λ (k : ℕ). drop k xs) next))

-- ---- blocks

over_size : (bytes : List ℕ) → length (remainder_of bytes) ≡ length bytes - 384 * (length bytes / 384)
over_size bytes = length-drop (384 * (length bytes / 384)) bytes

count_stays : (bytes more : List ℕ) → length (remainder_of bytes) + length more < 384
    → length (bytes ++ more) / 384 ≡ length bytes / 384
count_stays bytes more short = omega (arith, length-append bytes more, over_size bytes)

count_grows : (bytes more : List ℕ) → length (remainder_of bytes) + length more ≡ 384
    → length (bytes ++ more) / 384 ≡ suc (length bytes / 384)
count_grows bytes more full = omega (arith, length-append bytes more, over_size bytes)

joined_over : (bytes more : List ℕ) → drop (384 * (length bytes / 384)) (bytes ++ more) ≡ remainder_of bytes ++ more
joined_over bytes more = drop-append-le (384 * (length bytes / 384)) bytes more (omega arith)

-- while the block is not complete, further bytes are appended to those left over
over_stays : (bytes more : List ℕ) → length (remainder_of bytes) + length more < 384
    → remainder_of (bytes ++ more) ≡ remainder_of bytes ++ more
over_stays bytes more short =
    ap (λ (n : ℕ). drop (384 * n) (bytes ++ more)) (count_stays bytes more short) ∙ joined_over bytes more

pub gots_stay : (bytes more : List ℕ) → length (remainder_of bytes) + length more < 384
    → requests_in_blocks (bytes ++ more) ≡ requests_in_blocks bytes
gots_stay bytes more short =
    ap (map heard_of) (ap (λ (n : ℕ). parts 384 n (bytes ++ more)) (count_stays bytes more short)
    ∙ parts-append 384 (length bytes / 384) bytes more (omega arith))

-- when the block is complete, its request is added
pub gots_grow : (bytes more : List ℕ) → length (remainder_of bytes) + length more ≡ 384
    → requests_in_blocks (bytes ++ more) ≡ requests_in_blocks bytes ++ heard_of (remainder_of bytes ++ more) ∷ []
gots_grow bytes more full =
    let n : ℕ = length bytes / 384 in
    let last : take 384 (drop (384 * n) (bytes ++ more)) ≡ remainder_of bytes ++ more =
    ap (take 384) (joined_over bytes more)
    ∙ take_all 384 (remainder_of bytes ++ more) (omega (arith, length-append (remainder_of bytes) more)) in
    ap (map heard_of) (ap (λ (k : ℕ). parts 384 k (bytes ++ more)) (count_grows bytes more full)
    ∙ parts-last 384 n (bytes ++ more)
    ∙ ap₂ (λ (fronts : List (List ℕ)) (block : List ℕ). fronts ++ block ∷ [])
    (parts-append 384 n bytes more (omega arith)) last)
    ∙ map-append heard_of (blocks_of bytes) ((remainder_of bytes ++ more) ∷ [])

-- ---- the blocks are the parts of the bytes

parts-whole : (size n : ℕ) (xs : List ℕ) → size * n ≤ length xs → All (λ part. length part ≡ size) (parts size n xs)
parts-whole size zero xs fits = All-nil (λ part. length part ≡ size)
parts-whole size (suc n) xs fits =
    All-cons (λ part. length part ≡ size) (take size xs) (parts size n (drop size xs))
    (length-take-le size xs (omega arith))
    (parts-whole size n (drop size xs) (omega (arith, length-drop size xs)))

parts-joined : (size n : ℕ) (xs : List ℕ) → flat_map (λ part. part) (parts size n xs) ++ drop (size * n) xs ≡ xs
parts-joined size zero xs =
    let none : size * 0 ≡ 0 = omega arith in
    ap (λ (k : ℕ). drop k xs) none
parts-joined size (suc n) xs =
    let next : size + size * n ≡ size * suc n = omega arith in
    let others : List ℕ = flat_map (λ part. part) (parts size n (drop size xs)) in
    ap (λ (ys : List ℕ). ys ++ drop (size * suc n) xs)
    (flat_map-cons (λ part. part) (take size xs) (parts size n (drop size xs)))
    ∙ append_assoc (take size xs) others (drop (size * suc n) xs)
    ∙ ap (λ (k : ℕ). take size xs ++ (others ++ drop k xs)) (sym next)
    ∙ ap (λ (ys : List ℕ). take size xs ++ (others ++ ys)) (sym (drop-drop (size * n) size xs))
    ∙ ap (λ (ys : List ℕ). take size xs ++ ys) (parts-joined size n (drop size xs))
    ∙ take-append-drop size xs

pub blocks-whole : (bytes : List ℕ) → All (λ block. length block ≡ 384) (blocks_of bytes)
blocks-whole bytes = parts-whole 384 (length bytes / 384) bytes (omega arith)

pub blocks-partial : (bytes : List ℕ) → length (remainder_of bytes) < 384
blocks-partial bytes = omega (arith, over_size bytes)

pub blocks-joined : (bytes : List ℕ) → flat_map (λ block. block) (blocks_of bytes) ++ remainder_of bytes ≡ bytes
blocks-joined bytes = parts-joined 384 (length bytes / 384) bytes

-- ---- the first sixteen bytes of a block

from_four : (xs ys : List ℕ) → ((i : ℕ) → i < 4 → get_or xs i 0 ≡ get_or ys i 0)
    → from_le_bytes w32 xs ≡ from_le_bytes w32 ys
from_four xs ys same =
    let zeroth = same 0 (omega arith) in
    let first = same 1 (omega arith) in
    let second = same 2 (omega arith) in
    let third = same 3 (omega arith) in
    cc

-- an int depends only on its own four bytes
int_in_front : (n position : ℕ) (bytes : List ℕ) → position + 4 ≤ n
    → int_at position (take n bytes) ≡ int_at position bytes
int_in_front n position bytes within =
    ap (cast_signed w32) (from_four (drop position (take n bytes)) (drop position bytes) (λ i below.
    get_or-drop position (take n bytes) i 0 ∙ get_or-take n bytes (position + i) 0 (omega arith)
    ∙ sym (get_or-drop position bytes i 0)))

pub heard_of_front : (n : ℕ) (block : List ℕ) → 16 ≤ n → heard_of (take n block) ≡ heard_of block
heard_of_front n block within =
    ap₂ (λ (magic command : ℤ). heard_of_ints magic command (int_at 8 (take n block)) (int_at 12 (take n block)))
    (int_in_front n 0 block (omega arith)) (int_in_front n 4 block (omega arith))
    ∙ ap₂ (λ (runlevel sleeptime : ℤ). heard_of_ints (int_at 0 block) (int_at 4 block) runlevel sleeptime)
    (int_in_front n 8 block (omega arith)) (int_in_front n 12 block (omega arith))

take_min : (m taken : ℕ) (piece : List ℕ) → taken ≤ length piece → take (min taken m) piece ≡ take m (take taken piece)
take_min m taken piece within =
    let size : length (take taken piece) ≡ taken = length-take-le taken piece within in
    ⊎_elim (λ below. let few : min taken m ≡ m = omega arith in
    ap (λ (k : ℕ). take k piece) few ∙ sym (take-take m taken piece (omega arith)))
    (λ above. let all : min taken m ≡ taken = omega arith in
    ap (λ (k : ℕ). take k piece) all ∙ sym (take_all m (take taken piece) (omega arith)))
    (cases_lt m taken)

-- the first n bytes can be taken from the bytes left over, and then from the next piece
front_after : (n taken : ℕ) (over piece : List ℕ) → taken ≤ length piece
    → take n over ++ take (min taken (n - length (take n over))) piece ≡ take n (over ++ take taken piece)
front_after n taken over piece within =
    ⊎_elim (λ below.
    let size : length (take n over) ≡ n = length-take-le n over (omega arith) in
    let none : min taken (n - length (take n over)) ≡ 0 = omega arith in
    ap (λ (k : ℕ). take n over ++ take k piece) none ∙ append-nil (take n over)
    ∙ sym (take-append-le n over (take taken piece) (omega arith)))
    (λ above.
    let m : ℕ = n - length over in
    let whole : take n over ≡ over = take_all n over above in
    let size : length over + m ≡ n = omega arith in
    ap (λ (xs : List ℕ). xs ++ take (min taken (n - length xs)) piece) whole
    ∙ ap (λ (ys : List ℕ). over ++ ys) (take_min m taken piece within)
    ∙ sym (take-append-add over (take taken piece) m)
    ∙ ap (λ (k : ℕ). take k (over ++ take taken piece)) size)
    (cases_lt n (length over))

pub front_joins : (n taken : ℕ) (over piece front : List ℕ) → taken ≤ length piece → front ≡ take n over
    → front ++ take (min taken (n - length front)) piece ≡ take n (over ++ take taken piece)
front_joins n taken over piece front within is =
    ap (λ (xs : List ℕ). xs ++ take (min taken (n - length xs)) piece) is ∙ front_after n taken over piece within

-- ---- a piece that ends before the block is complete

pub over_feeds : (bytes piece : List ℕ) (taken : ℕ) → taken ≤ length piece → length (remainder_of bytes) + taken < 384
    → remainder_of (bytes ++ take taken piece) ≡ remainder_of bytes ++ take taken piece
over_feeds bytes piece taken within short =
    over_stays bytes (take taken piece) (omega (arith, length-take-le taken piece within))

pub count_feeds : (bytes piece : List ℕ) (taken : ℕ) → taken ≤ length piece → length (remainder_of bytes) + taken < 384
    → length (remainder_of (bytes ++ take taken piece)) ≡ length (remainder_of bytes) + taken
count_feeds bytes piece taken within short =
    ap length (over_feeds bytes piece taken within short) ∙ length-append (remainder_of bytes) (take taken piece)
    ∙ ap (λ (k : ℕ). length (remainder_of bytes) + k) (length-take-le taken piece within)

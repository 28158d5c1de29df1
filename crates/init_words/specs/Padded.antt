-- Lists stored in an array of fixed length: the items, padded with blanks.
use Rattle.std.proofs.Common.{◌≡◌, ◌≤◌, ◌-◌, ◌++◌, ℕ, List, length, take, drop, replicate, arith, length-take-le}
use Rattle.std.proofs.Common.{take-append-drop}

-- if every item after the first n is a blank, the array equals its first n items followed by padding
pub take-padded : {X : Type 0} (room : ℕ) (blank : X) (n : ℕ) (xs : List X) → n ≤ room → length xs ≡ room
    → drop n xs ≡ replicate (room - n) blank → take n xs ++ replicate (room - length (take n xs)) blank ≡ xs
take-padded room blank n xs small long rest =
    let short : n ≤ length xs = omega arith in
    rw (length-take-le n xs short, ← rest) (take-append-drop n xs)

pub length-front : {X : Type 0} (room : ℕ) (n : ℕ) (xs : List X) → n ≤ room → length xs ≡ room → length (take n xs) ≡ n
length-front room n xs small long = length-take-le n xs (omega arith)

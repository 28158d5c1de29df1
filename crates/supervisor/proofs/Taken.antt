-- Calls for bytes and for late answers, one after the other.
use Rattle.supervisor.proofs.Words.{◌≡◌, sym, ◌∙◌, ap, subst, ℕ, ◌+◌, ◌-◌, ◌<◌, min, true, false, ◌&&◌, List, ◌∷◌, ◌++◌}
use Rattle.supervisor.proofs.Words.{length, Option, Some, None, nat_le, arith, list_all, false≢true, and_from, le-leb}
use Rattle.supervisor.proofs.Words.{Answer, Late, HostCall, BYTE_LIMIT, PIECE, LATE_LIMIT, is_last, are_full}
use Rattle.supervisor.proofs.Words.{are_late_answers}
use Rattle.supervisor.proofs.Words.{are_byte_readings, bytes_in, bytes_taken, has_come, is_room, IsLateCall}
use Rattle.supervisor.proofs.Words.{IsBytesCall}

-- the calls returned this many bytes in total, and each returned some
pub record HaveTaken (count : ℕ) (calls : List HostCall) : Type 0 where
  pub full : are_full calls ≡ true
  pub taken : bytes_taken calls ≡ count

pub room_is : (room before : ℕ) → room ≡ min PIECE (BYTE_LIMIT - before) → before < BYTE_LIMIT
    → is_room room before ≡ true
room_is room before is within = grind arith

-- one more call, which returned some bytes
pub taken_more : (before count : ℕ) (xs ys : List HostCall) → 0 < count → HaveTaken before xs
    → IsBytesCall before count ys → HaveTaken (before + count) (ys ++ xs)
taken_more before count xs ys some have (room, taken, is, fits, gave) =
    subst (λ calls. HaveTaken (before + count) (calls ++ xs)) (sym is) (record {
      full = and_from (is_room room (bytes_taken xs) && nat_le 1 (bytes_in taken)) (are_full xs)
          (and_from (is_room room (bytes_taken xs)) (nat_le 1 (bytes_in taken)) (ap (is_room room) have.taken ∙ fits)
          (ap (nat_le 1) gave ∙ le-leb 1 count some)) have.full;
      taken = λ i. have.taken i + gave i;
    })

pub takes_end : (before : ℕ) (xs ys : List HostCall) → HaveTaken before xs → IsBytesCall before 0 ys
    → are_byte_readings (ys ++ xs) ≡ true
takes_end before xs ys have h = grind arith

pub takes_all : (calls : List HostCall) → HaveTaken BYTE_LIMIT calls → are_byte_readings calls ≡ true
takes_all calls have = grind arith

-- ---- late answers

pub record HaveCome (count : ℕ) (calls : List HostCall) : Type 0 where
  pub all : list_all has_come calls ≡ true
  pub counted : length calls ≡ count

-- one more call, which was not the last
pub come_more : (before : ℕ) (xs ys : List HostCall) → HaveCome before xs → IsLateCall before false ys
    → HaveCome (before + 1) (ys ++ xs)
come_more before xs ys have (late, is, last) =
    subst (λ calls. HaveCome (before + 1) (calls ++ xs)) (sym is) (by late last)
  where
    by : (late : Option (List ℕ × Answer)) → false ≡ is_last late before → HaveCome (before + 1) (Late late ∷ xs)
    by None last = absurd (false≢true last)
    by (Some given) last = record { all = have.all; counted = omega (arith, have.counted) }

-- the last call
pub come_end : (before : ℕ) (xs ys : List HostCall) → before < LATE_LIMIT → HaveCome before xs
    → IsLateCall before true ys → are_late_answers (ys ++ xs) ≡ true
come_end before xs ys within have h = grind arith

pub room_left : (late : Option (List ℕ × Answer)) (before : ℕ) → before < LATE_LIMIT → false ≡ is_last late before
    → before + 1 < LATE_LIMIT
room_left late before within last = grind arith

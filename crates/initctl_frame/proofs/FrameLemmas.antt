-- The ints of an encoded block.
use Rattle.initctl_frame.proofs.Words.{◌≡◌, ◌∙◌, ℕ, pos, ◌^◌, ◌<◌, ap, ap₂, arith, w32, to_z_pos, cast_signed}
use Rattle.initctl_frame.proofs.Words.{heard_of_sign, block_of_ints, heard_of, heard_of_runlevel, int_at, seconds_of}
use Rattle.std.proofs.lemmas.Nat.{from_le_bytes-to_le_bytes_4}
use Rattle.std.specs.Prelude.{min}

runlevel_of : (command runlevel sleeptime : ℕ) → runlevel < 2 ^ 31
    → int_at 8 (block_of_ints command runlevel sleeptime) ≡ pos runlevel
runlevel_of command runlevel sleeptime fits =
    ap (cast_signed w32) (from_le_bytes-to_le_bytes_4 runlevel (omega arith)) ∙ to_z_pos w32 runlevel fits

sleeptime_of : (command runlevel sleeptime : ℕ) → sleeptime < 2 ^ 31
    → int_at 12 (block_of_ints command runlevel sleeptime) ≡ pos sleeptime
sleeptime_of command runlevel sleeptime fits =
    ap (cast_signed w32) (from_le_bytes-to_le_bytes_4 sleeptime (omega arith)) ∙ to_z_pos w32 sleeptime fits

-- an encoded level request is decoded as its character, with at most 3,600 seconds
pub level_read_back : (sign seconds : ℕ) → sign < 2 ^ 8 → seconds < 2 ^ 16
    → heard_of (block_of_ints 1 sign seconds) ≡ heard_of_sign sign (min seconds 3600)
level_read_back sign seconds byte short =
    ap₂ (λ runlevel sleeptime. heard_of_runlevel runlevel (seconds_of sleeptime))
    (runlevel_of 1 sign seconds (omega arith)) (sleeptime_of 1 sign seconds (omega arith))

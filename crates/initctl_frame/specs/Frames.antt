-- The request block of init's control channel (initreq.h): 384 bytes, of which the first sixteen are four 32-bit
-- little-endian two's complement ints: magic, command, runlevel, sleeptime.
use Rattle.std.specs.Prelude.{ℕ, ℤ, pos, negsuc, Bool, min, if◌then◌else◌, List, [], ◌∷◌, ◌++◌, drop, replicate}
use Rattle.std.specs.List.{list_any}
use Rattle.std.specs.Int.{w32, cast_signed, from_le_bytes, to_le_bytes}
use Rattle.std.specs.Ordering.{int_eq}
use Rattle.init_words.specs.declared.limits.TheConstants.{GRACE_LIMIT}
use Rattle.init_words.specs.declared.orders.PowerKind.{PowerKind}
use Rattle.init_words.specs.declared.orders.PowerKind.TheVariants as power
use Rattle.initctl_frame.specs.declared.requests.HeardRequest.{HeardRequest}
use Rattle.initctl_frame.specs.declared.requests.HeardRequest.TheVariants as got
use Rattle.initctl_frame.specs.declared.requests.Cause.TheVariants.{Magic, Unknown, LeftOut, Character}
use Rattle.initctl_frame.specs.declared.requests.Request.{Request}
use Rattle.initctl_frame.specs.declared.requests.Request.TheVariants as request
use Rattle.initctl_frame.specs.Signs.{heard_of_sign}

-- the int whose four bytes begin at this position, lowest byte first
abbrev pub int_at : ℕ → List ℕ → ℤ
int_at position bytes = cast_signed w32 (from_le_bytes w32 (drop position bytes))

-- the seconds of a sleeptime: a value below 0 counts as 0, one above 3,600 as 3,600
abbrev pub seconds_of : ℤ → ℕ
seconds_of (pos seconds) = min seconds GRACE_LIMIT
seconds_of (negsuc below) = 0

-- the request that the runlevel int encodes, as the code of a character; a negative int is ignored
abbrev pub heard_of_runlevel : ℤ → ℕ → HeardRequest
heard_of_runlevel (pos code) seconds = heard_of_sign code seconds
heard_of_runlevel (negsuc below) seconds = got.Nothing Character

-- the commands of initreq.h that this init does not support: START, BSD, SETENV, UNSETENV and CHANGECONS
abbrev pub is_left_out : ℤ → Bool
is_left_out command = list_any (int_eq command) (pos 0 ∷ pos 5 ∷ pos 6 ∷ pos 7 ∷ pos 12345 ∷ [])

-- the request that the command encodes: RUNLVL is 1, POWERFAIL 2, POWERFAILNOW 3 and POWEROK 4; all others are ignored
abbrev pub heard_of_command : ℤ → ℤ → ℤ → HeardRequest
heard_of_command command runlevel sleeptime =
    if int_eq command (pos 1) then heard_of_runlevel runlevel (seconds_of sleeptime)
    else if int_eq command (pos 2) then got.Power power.Fail
    else if int_eq command (pos 3) then got.Power power.FailNow
    else if int_eq command (pos 4) then got.Power power.Ok
    else if is_left_out command then got.Nothing LeftOut else got.Nothing Unknown

-- the request that the four ints encode; it is ignored unless the first int is the magic number
abbrev pub heard_of_ints : ℤ → ℤ → ℤ → ℤ → HeardRequest
heard_of_ints magic command runlevel sleeptime =
    if int_eq magic (pos 0x03091969) then heard_of_command command runlevel sleeptime else got.Nothing Magic

-- the request that the block encodes, which depends only on its four ints
abbrev pub heard_of : List ℕ → HeardRequest
heard_of block = heard_of_ints (int_at 0 block) (int_at 4 block) (int_at 8 block) (int_at 12 block)

-- the command number for the power event
abbrev pub power_command : PowerKind → ℕ
power_command power.Fail = 2
power_command power.FailNow = 3
power_command power.Ok = 4

-- the block with this command, runlevel and sleeptime: the magic number and the three ints, then 368 zeros
abbrev pub block_of_ints : ℕ → ℕ → ℕ → List ℕ
block_of_ints command runlevel sleeptime =
    to_le_bytes w32 0x03091969 ++ to_le_bytes w32 command ++ to_le_bytes w32 runlevel ++ to_le_bytes w32 sleeptime
    ++ replicate 368 0

-- the block that is written for a request, with the character as typed and the seconds as given
abbrev pub block_of : Request → List ℕ
block_of (request.Runlvl sign seconds) = block_of_ints 1 sign seconds
block_of (request.Power kind) = block_of_ints (power_command kind) 0 0

-- the request that init reads when this request is sent
abbrev pub meaning_of : Request → HeardRequest
meaning_of (request.Runlvl sign seconds) = heard_of_sign sign (min seconds GRACE_LIMIT)
meaning_of (request.Power kind) = got.Power kind

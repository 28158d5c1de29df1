-- The characters that telinit(8) accepts, and the request for each of them.
use Rattle.std.specs.Prelude.{ℕ, Bool, ◌==◌, ◌||◌, if◌then◌else◌, List, codes, Option, Some, None}
use Rattle.std.specs.List.{list_any}
use Rattle.init_words.specs.declared.levels.Level.{Level}
use Rattle.init_words.specs.declared.levels.Letter.{Letter}
use Rattle.init_words.specs.Levels.{level_read, letter_read}
use Rattle.initctl_frame.specs.declared.requests.HeardRequest.{HeardRequest}
use Rattle.initctl_frame.specs.declared.requests.HeardRequest.TheVariants as got
use Rattle.initctl_frame.specs.declared.requests.Cause.TheVariants.{Character}

-- the characters that telinit(8) accepts, in ASCII
abbrev pub sign_codes : List ℕ
sign_codes = codes "0123456789SsABCabcQqUu"

-- telinit(8) accepts the byte as a character
abbrev pub is_sign : ℕ → Bool
is_sign code = list_any (λ listed. listed == code) sign_codes

-- the character as typed, if telinit(8) accepts it
abbrev pub sign_read : ℕ → Option ℕ
sign_read code = if is_sign code then Some code else None

-- `Q q` asks to read inittab again, and `U u` to re-execute init; any other character is ignored
abbrev pub heard_of_last : ℕ → HeardRequest
heard_of_last code =
    if code == 81 || code == 113 then got.Reload
    else if code == 85 || code == 117 then got.Reexec
    else got.Nothing Character

-- `A B C a b c` call the ondemand entries for the letter
abbrev pub heard_of_letter : Option Letter → ℕ → HeardRequest
heard_of_letter (Some letter) code = got.Call letter
heard_of_letter None code = heard_of_last code

-- `0-9 S s` request the level, with the given number of seconds between SIGTERM and SIGKILL
abbrev pub heard_of_level : Option Level → ℕ → ℕ → HeardRequest
heard_of_level (Some level) code seconds = got.Level level seconds
heard_of_level None code seconds = heard_of_letter (letter_read code) code

-- the request that the character makes, with these seconds between SIGTERM and SIGKILL if it is for a level
abbrev pub heard_of_sign : ℕ → ℕ → HeardRequest
heard_of_sign code seconds = heard_of_level (level_read code) code seconds

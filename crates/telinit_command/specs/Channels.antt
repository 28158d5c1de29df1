-- How the known bytes of channels change.
use Rattle.std.specs.Prelude.{◌≡◌, ℕ, ◌%◌, if◌then◌else◌, List, length, ◌++◌, Option, Some, IfSome, option_map}
use Rattle.std.specs.Str.{bytes_eq}
use Rattle.initctl_frame.specs.declared.frames.TheConstants.{BLOCK}
use Rattle.initctl_frame.specs.Frames.{block_of}
use Rattle.telinit_command.specs.CommandLine.{TelinitArguments, telinit_read_of}

-- the bytes of the channel at each path, if known
abbrev pub KnownBytes : Type 0
KnownBytes = List ℕ → Option (List ℕ)

-- all channels are unchanged
abbrev pub AreSame : KnownBytes → KnownBytes → Type 0
AreSame old new = (at : List ℕ) → new at ≡ old at

-- these bytes were appended to the channel at the path, and all other channels are unchanged
abbrev pub AppendsToChannel : List ℕ → List ℕ → KnownBytes → KnownBytes → Type 0
AppendsToChannel path gained old new =
    (at : List ℕ) → new at ≡ (if bytes_eq at path then option_map (λ bytes. bytes ++ gained) (old at) else old at)

-- a prefix of these bytes, possibly empty, was appended to the channel at the path
abbrev pub AppendsPrefixToChannel : List ℕ → List ℕ → KnownBytes → KnownBytes → Type 0
AppendsPrefixToChannel path block old new =
    (front rest : List ℕ) × (front ++ rest ≡ block) × AppendsToChannel path front old new

-- the channel at the path consists of complete request blocks
abbrev pub IsWholeAt : List ℕ → KnownBytes → Type 0
IsWholeAt path old = IfSome (old path) (λ bytes. length bytes % BLOCK ≡ 0)

-- the arguments ask for this request block, and this is the path of the channel, which they or the folder in the
-- environment name
abbrev pub IsRequestFor : List ℕ → List (List ℕ) → List ℕ → List ℕ → Type 0
IsRequestFor home words path block =
    (arguments : TelinitArguments) × (telinit_read_of home words ≡ Some arguments) × (path ≡ arguments.path)
    × (block_of arguments.request ≡ block)

-- the channel that the arguments name consisted of complete requests, and the request that they make was appended to it
abbrev pub AppendsRequest : List ℕ → List (List ℕ) → KnownBytes → KnownBytes → Type 0
AppendsRequest home words old new =
    (path block : List ℕ) × IsRequestFor home words path block × IsWholeAt path old
    × AppendsToChannel path block old new

-- a prefix of the request that the arguments make, possibly empty, was appended to the channel that they name
abbrev pub AppendsRequestPrefix : List ℕ → List (List ℕ) → KnownBytes → KnownBytes → Type 0
AppendsRequestPrefix home words old new = (path block : List ℕ) × IsRequestFor home words path block
    × AppendsPrefixToChannel path block old new

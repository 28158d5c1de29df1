-- A channel's file that only grew.
use Rattle.std.specs.Prelude.{◌≡◌, ◌≤◌, ℕ, Bool, true, List, [], ◌∷◌, length, take, drop, Option, Some, ⊤}
use Rattle.program_io.specs.declared.channel_files.TheConstants.{REQUEST}
use Rattle.host_files.specs.declared.channel_files.FoundFile.{FoundFile}
use Rattle.host_files.specs.Channels.{ChannelCall, progress_of}
use Rattle.host_files.specs.Channels.ChannelCall.{found, read}

-- All answers are about a single file, with this device and inode number, which only grew, and which had this text in
-- the end. At each look, the file was at the path, no longer than the text, and no shorter than the part already read.
-- Each request was read after a first look, and is the part of the text at its position.
abbrev pub AreOfFile : ℕ → ℕ → List ℕ → Bool → List ChannelCall → Type 0
AreOfFile device number text fresh [] = ⊤
AreOfFile device number text fresh (found file ∷ told) =
    ((at : FoundFile) × (file ≡ Some at) × (at.device ≡ device) × (at.number ≡ number) × (at.length ≤ length text)
    × ((progress_of fresh told).heard ≤ at.length)) × AreOfFile device number text fresh told
AreOfFile device number text fresh (read position block ∷ told) =
    ((progress_of fresh told).begun ≡ true) × (block ≡ take REQUEST (drop position text))
    × AreOfFile device number text fresh told

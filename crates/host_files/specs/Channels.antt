-- What a channel's file returns when it is looked at and read, and where in it requests are read (initreq.h).
use Rattle.std.specs.Prelude.{◌≡◌, ℕ, ◌+◌, ◌-◌, ◌%◌, ◌==◌, nat_lt, Bool, true, false, ◌&&◌, ◌||◌, not, if◌then◌else◌}
use Rattle.std.specs.Prelude.{List, [], ◌∷◌, ◌++◌, length, Option, Some, None, ⊤}
use Rattle.std.specs.Option.{option_map_or}
use Rattle.program_io.specs.declared.channel_files.TheConstants.{REQUEST}
use Rattle.host_files.specs.declared.channel_files.FoundFile.{FoundFile}
use Rattle.host_files.specs.declared.channel_progress.Progress.{Progress}

-- The result of a look at the channel's path, or of reading its file:
-- - `found`: this file was at the path, or none
-- - `read`: these bytes of the file were read, beginning at this position
pub data ChannelCall : Type 0 where
  found : Option FoundFile → ChannelCall
  read : ℕ → List ℕ → ChannelCall

-- the file at the path is not the one found before, or there was no file at the last look
abbrev pub is_another : Progress → FoundFile → Bool
is_another progress file = option_map_or
    (λ known. progress.missing || not (known.0 == file.device && known.1 == file.number)) progress.file false

-- the channel was replaced or truncated: its file is a different one, or is shorter than the part already read
abbrev pub is_replaced : Progress → FoundFile → Bool
is_replaced progress file = is_another progress file || nat_lt file.length progress.heard

-- the length of all whole requests in a file of this size
abbrev pub whole_length : ℕ → ℕ
whole_length size = size - size % REQUEST

-- the position of the first request to read: the start of the file, or, if earlier requests are skipped, the end of the
-- last whole request that the file already has
abbrev pub first_offset : Bool → Option FoundFile → ℕ
first_offset fresh file = if fresh then whole_length (option_map_or (λ f. f.length) file 0) else 0

-- the first look sets the position to the first request to read
abbrev pub begun : Bool → Option FoundFile → Progress → Progress
begun fresh file progress = if progress.begun then progress
    else record progress { begun = true; heard = first_offset fresh file }

-- the position after a look: the start of the file if the channel was replaced or truncated or does not exist,
-- otherwise unchanged
abbrev pub moved : Option FoundFile → Progress → Progress
moved None progress = record progress { heard = 0; missing = true }
moved (Some file) progress = record {
  begun = progress.begun;
  heard = if is_replaced progress file then 0 else progress.heard;
  missing = false;
  file = Some (file.device, file.number);
}

-- the position after a look that found this file, or none
abbrev pub progress_after : Bool → Option FoundFile → Progress → Progress
progress_after fresh file progress = moved file (begun fresh file progress)

-- the position after these looks and readings, newest first
abbrev pub progress_of : Bool → List ChannelCall → Progress
progress_of fresh [] = record { begun = false; heard = 0; missing = false; file = None }
progress_of fresh (found file ∷ told) = progress_after fresh file (progress_of fresh told)
progress_of fresh (read position block ∷ told) =
    let progress = progress_of fresh told in record progress { heard = progress.heard + REQUEST }

-- each request was read whole, at the position where the previous request ended, or, if the channel was new, replaced
-- or truncated in between, at the position where its first request begins
abbrev pub ReadsConsecutively : Bool → List ChannelCall → Type 0
ReadsConsecutively fresh [] = ⊤
ReadsConsecutively fresh (found file ∷ told) = ReadsConsecutively fresh told
ReadsConsecutively fresh (read position block ∷ told) =
    (position ≡ (progress_of fresh told).heard) × (length block ≡ REQUEST) × ReadsConsecutively fresh told

-- the bytes that were read, in the order of reading
abbrev pub bytes_read : List ChannelCall → List ℕ
bytes_read [] = []
bytes_read (found file ∷ told) = bytes_read told
bytes_read (read position block ∷ told) = bytes_read told ++ block

-- The state of a channel:
-- - `fresh`: the requests that are in the channel before the first reading are skipped
-- - `told`: the results of looks at its file and of readings, newest first
-- - `rest`: the bytes that were read but not handed on yet
pub record ChannelState : Type 0 where
  pub fresh : Bool
  pub told : List ChannelCall
  pub rest : List ℕ

-- exactly these bytes were handed on so far: all bytes that were read, except the rest
abbrev pub HandedBytes : ChannelState → List ℕ → Type 0
HandedBytes channel handed = handed ++ channel.rest ≡ bytes_read channel.told

-- nothing was handed on between the two states
abbrev pub HandsOverNothing : ChannelState → ChannelState → Type 0
HandsOverNothing old new = (handed : List ℕ) → HandedBytes old handed → HandedBytes new handed

-- exactly these bytes were handed on between the two states
abbrev pub HandsOn : ChannelState → ChannelState → List ℕ → Type 0
HandsOn old new bytes = (handed : List ℕ) → HandedBytes old handed → HandedBytes new (handed ++ bytes)

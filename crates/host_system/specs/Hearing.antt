-- What a host reads from its channel.
use Rattle.std.specs.Prelude.{ℕ, List, [], ◌∷◌, ◌++◌, Ok}
use Rattle.host_calls.specs.declared.calls.Call.TheVariants.{TakeBytes}
use Rattle.host_calls.specs.Calls.{HostCall}
use Rattle.host_files.specs.Channels.{ChannelState, HandedBytes, ReadsConsecutively}

-- the bytes that the calls returned, oldest first; the calls are given newest first
abbrev pub bytes_taken : List HostCall → List ℕ
bytes_taken [] = []
bytes_taken (TakeBytes room (Ok bytes) ∷ calls) = bytes_taken calls ++ bytes
bytes_taken (_ ∷ calls) = bytes_taken calls

-- The calls returned the bytes that were read from the channel's file, each once and in order, except the rest of the
-- last request, which is returned next. Each request was read whole, beginning where the previous one ended, unless
-- reading began, or the channel was replaced or truncated, in between.
abbrev pub AreBytesOfChannel : List HostCall → ChannelState → Type 0
AreBytesOfChannel calls channel = HandedBytes channel (bytes_taken calls)
    × ReadsConsecutively channel.fresh channel.told

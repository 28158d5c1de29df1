-- The time that requests allow between SIGTERM and SIGKILL (telinit(8), `-t`).
use Rattle.std.specs.Prelude.{ℕ, Bool, true, nat_le}
use Rattle.initctl_frame.specs.declared.requests.HeardRequest.{HeardRequest}
use Rattle.initctl_frame.specs.declared.requests.HeardRequest.TheVariants.{Level}

-- if the request is for a runlevel, it allows at least this many seconds between SIGTERM and SIGKILL
abbrev pub leaves_time : ℕ → HeardRequest → Bool
leaves_time least (Level level seconds) = nat_le least seconds
leaves_time least _ = true

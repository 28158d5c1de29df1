-- Two laws about the system calls of a run (fork(2), waitpid(2), kill(2)): which processes init waits for and signals,
-- and when it sends SIGKILL. Lists of calls have the newest call first.
use Rattle.std.specs.Prelude.{ℕ, Bool, true, false, not, ◌&&◌, ◌||◌, ◌==◌, ◌+◌, ◌/◌, nat_le, max, List, []}
use Rattle.std.specs.Prelude.{◌∷◌, Some}
use Rattle.init_words.specs.declared.orders.SignalKind.TheVariants.{Term, Kill}
use Rattle.host_system.specs.Systems.{SystemCall}
use Rattle.host_system.specs.Systems.SystemCall.{read_clock, send, send_group, spawn, try_wait}

-- The process is an unreaped child: a spawn returned its number, and no wait since then returned its status.
abbrev pub is_live : ℕ → List SystemCall → Bool
is_live pid [] = false
is_live pid (spawn words (Some n) ∷ calls) = pid == n || is_live pid calls
is_live pid (try_wait n (Some (Some status)) ∷ calls) = not (pid == n) && is_live pid calls
is_live pid (_ ∷ calls) = is_live pid calls

-- PREMISE about the kernel: no spawn returns the number of an unreaped child.
abbrev pub numbers_are_new : List SystemCall → Bool
numbers_are_new [] = true
numbers_are_new (spawn words (Some n) ∷ calls) = not (is_live n calls) && numbers_are_new calls
numbers_are_new (_ ∷ calls) = numbers_are_new calls

-- FIRST LAW: init waits for and signals only its own unreaped children.
abbrev pub keeps_to_children : List SystemCall → Bool
keeps_to_children [] = true
keeps_to_children (try_wait pid outcome ∷ calls) = is_live pid calls && keeps_to_children calls
keeps_to_children (send signal pid reached ∷ calls) = is_live pid calls && keeps_to_children calls
keeps_to_children (send_group signal pid reached ∷ calls) = is_live pid calls && keeps_to_children calls
keeps_to_children (_ ∷ calls) = keeps_to_children calls

-- the time in seconds: the greatest reading of the clock so far
abbrev pub seconds : List SystemCall → ℕ
seconds [] = 0
seconds (read_clock (Some time) ∷ calls) = max (time / 1_000_000_000) (seconds calls)
seconds (_ ∷ calls) = seconds calls

-- A SIGTERM reached the process at least `grace` seconds before `now`. Since then no SIGKILL reached it, and no spawn
-- returned its number.
abbrev pub is_warned : ℕ → ℕ → ℕ → List SystemCall → Bool
is_warned pid grace now [] = false
is_warned pid grace now (spawn words (Some n) ∷ calls) = not (pid == n) && is_warned pid grace now calls
is_warned pid grace now (send Term n true ∷ calls) =
    pid == n && nat_le (seconds calls + grace) now || is_warned pid grace now calls
is_warned pid grace now (send_group Term n true ∷ calls) =
    pid == n && nat_le (seconds calls + grace) now || is_warned pid grace now calls
is_warned pid grace now (send Kill n true ∷ calls) = not (pid == n) && is_warned pid grace now calls
is_warned pid grace now (send_group Kill n true ∷ calls) = not (pid == n) && is_warned pid grace now calls
is_warned pid grace now (_ ∷ calls) = is_warned pid grace now calls

-- SECOND LAW: init sends SIGKILL only to a process that a SIGTERM reached at least `grace` seconds earlier.
abbrev pub kills_warned : ℕ → List SystemCall → Bool
kills_warned grace [] = true
kills_warned grace (send Kill pid reached ∷ calls) =
    is_warned pid grace (seconds calls) calls && kills_warned grace calls
kills_warned grace (send_group Kill pid reached ∷ calls) =
    is_warned pid grace (seconds calls) calls && kills_warned grace calls
kills_warned grace (_ ∷ calls) = kills_warned grace calls

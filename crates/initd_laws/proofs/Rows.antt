-- Worked runs: `refl` computes what the laws say of them. The newest call stands first.
use Rattle.std.proofs.Common.{◌≡◌, refl, ◌*◌, ℕ, true, false, List, [], ◌∷◌, codes, Some, None}
use Rattle.std.specs.declared.process.status.ExitStatus.{ExitStatus}
use Rattle.init_words.specs.declared.orders.SignalKind.TheVariants.{Term, Kill}
use Rattle.host_system.specs.Systems.{SystemCall}
use Rattle.host_system.specs.Systems.SystemCall.{read_clock, send, send_group, spawn, try_wait}
use Rattle.initd_laws.specs.Signals.{keeps_to_children, kills_warned, numbers_are_new}

-- a reading of the clock, in seconds
abbrev at : ℕ → SystemCall
at time = read_clock (Some (time * 1_000_000_000))

abbrev prep : List (List ℕ)
prep = codes "prep" ∷ []

abbrev serv : List (List ℕ)
serv = codes "serv" ∷ []

module _ (status : ExitStatus) where
  -- prep is started, looked at while it runs, and reaped; serv is started
  abbrev started : List SystemCall
  started = spawn serv (Some 12) ∷ try_wait 11 (Some (Some status)) ∷ at 101 ∷ try_wait 11 (Some None)
      ∷ spawn prep (Some 11) ∷ at 100 ∷ []

  -- serv gets TERM, runs on, gets KILL after five seconds, and is reaped; the kernel gives its number once more
  abbrev run : List SystemCall
  run = spawn serv (Some 12) ∷ try_wait 12 (Some (Some status)) ∷ send Kill 12 true ∷ at 107 ∷ try_wait 12 (Some None)
      ∷ send Term 12 true ∷ at 102 ∷ started

  run-new : numbers_are_new run ≡ true
  run-new = refl

  run-targets : keeps_to_children run ≡ true
  run-targets = refl

  run-kills : kills_warned 5 run ≡ true
  run-kills = refl

  -- ---- wrong runs: the kernel did its part in each

  -- TERM goes to a number whose process was reaped, whosever that is now
  abbrev recycled : List SystemCall
  recycled = send Term 11 true ∷ started

  recycled-new : numbers_are_new recycled ≡ true
  recycled-new = refl

  recycled-wrong : keeps_to_children recycled ≡ false
  recycled-wrong = refl

  -- KILL goes to a process that init did not start
  abbrev stranger : List SystemCall
  stranger = send_group Kill 1 true ∷ started

  stranger-wrong : keeps_to_children stranger ≡ false
  stranger-wrong = refl

  -- a process is waited for that was reaped
  abbrev waited_again : List SystemCall
  waited_again = try_wait 11 None ∷ started

  waited_again-wrong : keeps_to_children waited_again ≡ false
  waited_again-wrong = refl

  -- KILL comes after four seconds
  abbrev early : List SystemCall
  early = send Kill 12 true ∷ at 106 ∷ send Term 12 true ∷ at 102 ∷ started

  early-wrong : kills_warned 5 early ≡ false
  early-wrong = refl

  -- the clock is set on between the signals, and back before: its greatest reading counts
  abbrev set_back : List SystemCall
  set_back = send Kill 12 true ∷ at 107 ∷ send Term 12 true ∷ at 102 ∷ at 200 ∷ started

  set_back-wrong : kills_warned 5 set_back ≡ false
  set_back-wrong = refl

  -- TERM reached nothing
  abbrev unreached : List SystemCall
  unreached = send Kill 12 true ∷ at 107 ∷ send Term 12 false ∷ at 102 ∷ started

  unreached-wrong : kills_warned 5 unreached ≡ false
  unreached-wrong = refl

  -- TERM reached a process that ended, and KILL another one to which its number was given
  abbrev successor : List SystemCall
  successor = send Kill 12 true ∷ at 107 ∷ spawn serv (Some 12) ∷ try_wait 12 (Some (Some status))
      ∷ send Term 12 true ∷ at 102 ∷ started

  successor-new : numbers_are_new successor ≡ true
  successor-new = refl

  successor-wrong : kills_warned 5 successor ≡ false
  successor-wrong = refl

  -- a second KILL comes without a TERM of its own
  abbrev killed_twice : List SystemCall
  killed_twice = send Kill 12 true ∷ at 120 ∷ send Kill 12 true ∷ at 107 ∷ send Term 12 true ∷ at 102 ∷ started

  killed_twice-wrong : kills_warned 5 killed_twice ≡ false
  killed_twice-wrong = refl

  -- ---- what the kernel does not do: it gives a number of a process that was not reaped

  clash-old : numbers_are_new (spawn prep (Some 12) ∷ started) ≡ false
  clash-old = refl

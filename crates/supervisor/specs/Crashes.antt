-- The trace and the children that remain if init is killed by SIGKILL during a call to its host (kill(2)).
use Rattle.std.specs.Prelude.{◌≡◌, ◌⊎◌, ℕ, Bool, true, false, IsTrue, List, Option, Some, None}
use Rattle.init_words.specs.declared.orders.OrderKind.{OrderKind}
use Rattle.init_words.specs.declared.orders.OrderKind.TheVariants as ask
use Rattle.trace_events.specs.declared.happenings.Happening.TheVariants.{Asked, Still, Told}
use Rattle.trace_events.specs.declared.steps.Goal.{Goal}
use Rattle.trace_events.specs.Agreement.{is_unreaped}
use Rattle.trace_events.specs.Event.{Event}
use Rattle.trace_events.specs.Lawful.{is_lawful}
use Rattle.trace_events.specs.Past.{open_of}
use Rattle.trace_events.specs.Sound.{is_sound}
use Rattle.host_calls.specs.declared.calls.Call.TheVariants.{Start, Look, Signal, Late}
use Rattle.host_calls.specs.Calls.{HostCall}

-- the id that the call is about: the id of its order, or of the late answer that it returned
abbrev pub subject_of : HostCall → Option (List ℕ)
subject_of (Start id command reply) = Some id
subject_of (Look id reply) = Some id
subject_of (Signal id sent reply) = Some id
subject_of (Late (Some late)) = Some late.0
subject_of _ = None

-- the call is about this id, and this order for the id is open in the trace
abbrev pub IsOpenOrderOfCall : HostCall → OrderKind → List ℕ → List Event → Type 0
IsOpenOrderOfCall call order id front = (subject_of call ≡ Some id) × (open_of id front ≡ Some order)

-- `front` is the trace before the answer to the call; `world` is the trace with the answer, so its unreaped children
-- are the ones that exist. `front` is sound and lawful. Each unreaped child in `world` is unreaped in `front`, or the
-- call is about its id, whose Start is open in `front`. Each unreaped child in `front` is unreaped in `world`, or the
-- call is about its id, whose Look is open in `front`.
pub record LeftByCrash (call : HostCall) (goal : Goal) (front world : List Event) : Type 0 where
  pub sound : IsTrue (is_sound goal front)
  pub lawful : IsTrue (is_lawful front)
  pub stands : (id : List ℕ) (n : ℕ) → is_unreaped id n world ≡ true
      → (is_unreaped id n front ≡ true) ⊎ IsOpenOrderOfCall call ask.Start id front
  pub none_else : (id : List ℕ) (n : ℕ) → is_unreaped id n front ≡ true
      → (is_unreaped id n world ≡ true) ⊎ IsOpenOrderOfCall call ask.Look id front

-- a look that found nothing to reap can produce this happening
abbrev pub is_of_idle_look : Event → Bool
is_of_idle_look (Asked id ask.Look) = true
is_of_idle_look (Still id) = true
is_of_idle_look (Told id) = true
is_of_idle_look _ = false

-- `file` is a trace file when init is killed; it may lack the newest happenings of the trace, if looks that found
-- nothing produced them. `file` is sound and lawful. Each unreaped child in `world` is unreaped in `file`, or the call
-- is about its id, whose Start is open in `file`. Each unreaped child in `file` is unreaped in `world`, or the call is
-- about its id: its Look need not be open in the file.
pub record LeftByCrashInFile (call : HostCall) (goal : Goal) (file world : List Event) : Type 0 where
  pub sound : IsTrue (is_sound goal file)
  pub lawful : IsTrue (is_lawful file)
  pub stands : (id : List ℕ) (n : ℕ) → is_unreaped id n world ≡ true
      → (is_unreaped id n file ≡ true) ⊎ IsOpenOrderOfCall call ask.Start id file
  pub none_else : (id : List ℕ) (n : ℕ) → is_unreaped id n file ≡ true
      → (is_unreaped id n world ≡ true) ⊎ (subject_of call ≡ Some id)

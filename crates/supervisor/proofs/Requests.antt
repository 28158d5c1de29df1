-- The requests of a trace are those of the bytes that its calls took.
use Rattle.supervisor.proofs.EdgeWords.{arith, ◌≡◌, refl, sym, ◌∙◌, ap, ℕ, Bool, true, false, List, [], ◌∷◌, ◌++◌}
use Rattle.supervisor.proofs.EdgeWords.{append-nil, append_assoc, Option, Ok, Err, Answer, OrderKind}
use Rattle.supervisor.proofs.EdgeWords.{requests_in_blocks}
use Rattle.supervisor.proofs.EdgeWords.{remainder_of}
use Rattle.supervisor.proofs.EdgeWords.{Event, Start, Signal, Late, Clock, TakeBytes, ReadTables, Carry, Announce}
use Rattle.supervisor.proofs.EdgeWords.{Pause}
use Rattle.supervisor.proofs.EdgeWords.{Reply, HostCall, PartsRead, Point, ordered, order_for, come, is_last, nudged_if}
use Rattle.supervisor.proofs.EdgeWords.{reading, announced, point_after, came_whole, handed_if, requested, Continues}
use Rattle.supervisor.proofs.EdgeWords.{requests_in, bytes_of, Brings}
use Rattle.init_words.specs.declared.orders.OrderKind.TheVariants as ask
use Rattle.initctl_frame.specs.declared.requests.HeardRequest.{HeardRequest as Request}
use Rattle.trace_events.specs.declared.happenings.Happening.TheVariants as past
use Rattle.host_calls.specs.declared.calls.Call.TheVariants.{Look}
use Rattle.supervisor.proofs.Bytes.{bytes_continue}

requests-requested : (requests : List Request) (so_far : List Event)
    → requests_in (requested requests so_far) ≡ requests_in so_far ++ requests
requests-requested [] so_far = sym (append-nil (requests_in so_far))
requests-requested (request ∷ requests) so_far =
    requests-requested requests (past.Got request ∷ so_far) ∙ append_assoc (requests_in so_far) (request ∷ []) requests

-- No other call adds a request.

ordered_none : (id : List ℕ) (order : OrderKind) (reply : Reply) (so_far : List Event)
    → requests_in (ordered id order reply so_far) ≡ requests_in so_far
ordered_none id order reply so_far = grind arith

nudged_none : (b : Bool) (so_far : List Event) → requests_in (nudged_if b so_far) ≡ requests_in so_far
nudged_none true so_far = refl
nudged_none false so_far = refl

come_none : (late : Option (List ℕ × Answer)) (so_far : List Event)
    → requests_in (come late so_far) ≡ requests_in so_far
come_none late so_far = grind arith

reading_none : (parts : PartsRead) (so_far : List Event) → requests_in (reading parts ∷ so_far) ≡ requests_in so_far
reading_none parts so_far = grind arith

handed_none : (b : Bool) (so_far : List Event) → requests_in (handed_if b so_far) ≡ requests_in so_far
handed_none true so_far = refl
handed_none false so_far = refl

announced_none : (happening : Event) (so_far : List Event)
    → requests_in (announced happening so_far) ≡ requests_in so_far
announced_none happening so_far = grind arith

-- this call adds no request and no byte to what the earlier calls added
brings_none : (before : List ℕ) (call : HostCall) (calls : List HostCall) (p : Point) → Brings before calls p → bytes_of
    (call ∷ calls) ≡ bytes_of calls → requests_in (point_after (call ∷ calls) p).past ≡ requests_in (point_after calls
    p).past → (point_after (call ∷ calls) p).over ≡ (point_after calls p).over → Brings before (call ∷ calls) p
brings_none before call calls p brings bytes requests over = grind arith

brings_bytes : (before : List ℕ) (room : ℕ) (bytes : List ℕ) (calls : List HostCall) (p : Point) → Brings before calls p
    → Brings before (TakeBytes room (Ok bytes) ∷ calls) p
brings_bytes before room bytes calls p brings =
    let q : Point = point_after calls p in
    let more : Continues (before ++ bytes_of calls) bytes q =
    bytes_continue bytes (before ++ bytes_of calls) q brings.over in
    let joined : (before ++ bytes_of calls) ++ bytes ≡ before ++ (bytes_of calls ++ bytes) =
    append_assoc before (bytes_of calls) bytes in
    record {
      requests = brings.requests ++ more.requests;
      gots = ap requests_in_blocks (sym joined) ∙ more.gots
          ∙ ap (λ (l : List Request). l ++ more.requests) brings.gots
          ∙ append_assoc (requests_in_blocks before) brings.requests more.requests;
      past = ap (λ (r : Point). requests_in r.past) more.point ∙ requests-requested more.requests q.past ∙ ap (λ (l :
          List Request). l ++ more.requests) brings.past
          ∙ append_assoc (requests_in p.past) brings.requests more.requests;
      over = ap (λ (r : Point). r.over) more.point ∙ ap remainder_of joined;
    }

pub calls_bring : (calls : List HostCall) (before : List ℕ) (p : Point) → p.over ≡ remainder_of before
    → Brings before calls p
calls_bring [] before p is = record {
  requests = [];
  gots = ap requests_in_blocks (append-nil before) ∙ sym (append-nil (requests_in_blocks before));
  past = sym (append-nil (requests_in p.past));
  over = is ∙ ap remainder_of (sym (append-nil before));
}
calls_bring (TakeBytes room (Ok bytes) ∷ calls) before p is =
    brings_bytes before room bytes calls p (calls_bring calls before p is)
calls_bring (TakeBytes room (Err fault) ∷ calls) before p is =
    brings_none before (TakeBytes room (Err fault)) calls p (calls_bring calls before p is) refl refl refl
calls_bring (Start id command reply ∷ calls) before p is = brings_none before (Start id command reply) calls p
    (calls_bring calls before p is) refl (ordered_none id ask.Start reply (point_after calls p).past) refl
calls_bring (Look id reply ∷ calls) before p is = brings_none before (Look id reply) calls p
    (calls_bring calls before p is) refl (ordered_none id ask.Look reply (point_after calls p).past) refl
calls_bring (Signal id sent reply ∷ calls) before p is = brings_none before (Signal id sent reply) calls p
    (calls_bring calls before p is) refl (ordered_none id (order_for sent) reply (point_after calls p).past) refl
calls_bring (Late late ∷ calls) before p is = brings_none before (Late late) calls p
    (calls_bring calls before p is) refl (nudged_none (is_last late (point_after calls p).lates)
    (come late (point_after calls p).past) ∙ come_none late (point_after calls p).past) refl
calls_bring (Clock (Ok time) ∷ calls) before p is =
    brings_none before (Clock (Ok time)) calls p (calls_bring calls before p is) refl refl refl
calls_bring (Clock (Err fault) ∷ calls) before p is =
    brings_none before (Clock (Err fault)) calls p (calls_bring calls before p is) refl refl refl
calls_bring (ReadTables parts ∷ calls) before p is = brings_none before (ReadTables parts) calls p
    (calls_bring calls before p is) refl (reading_none parts (point_after calls p).past) refl
calls_bring (Carry text back ∷ calls) before p is = brings_none before (Carry text back) calls p
    (calls_bring calls before p is) refl (handed_none (came_whole text back) (point_after calls p).past) refl
calls_bring (Announce happening ∷ calls) before p is = brings_none before (Announce happening) calls p
    (calls_bring calls before p is) refl (announced_none happening (point_after calls p).past) refl
calls_bring (Pause ∷ calls) before p is =
    brings_none before Pause calls p (calls_bring calls before p is) refl refl refl

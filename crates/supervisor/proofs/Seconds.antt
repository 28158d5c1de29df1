-- The seconds in a record of calls: those of requests are at most 3,600, and so are all others, if the trace is sound
-- and the earlier seconds are.
use Rattle.supervisor.proofs.EdgeWords.{◌≡◌, refl, sym, ap, ◌∙◌, map, ℕ, ℤ, ◌+◌, ◌==◌, Bool, true, false, cond, List}
use Rattle.supervisor.proofs.EdgeWords.{[]}
use Rattle.supervisor.proofs.EdgeWords.{◌∷◌, ◌++◌, length, Option, Some, None, Ok, Err, arith, list_all}
use Rattle.supervisor.proofs.EdgeWords.{list_all-append}
use Rattle.supervisor.proofs.EdgeWords.{and_parts, and_from, Answer, OrderKind, HeardRequest, heard_of, heard_of_ints}
use Rattle.supervisor.proofs.EdgeWords.{heard_of_runlevel, int_at, seconds_of, blocks_of, requests_in_blocks, Goal}
use Rattle.supervisor.proofs.EdgeWords.{Event}
use Rattle.supervisor.proofs.EdgeWords.{are_short}
use Rattle.supervisor.proofs.EdgeWords.{is_request, is_seconds, is_short, is_sound, Start, Signal, Late, Clock}
use Rattle.supervisor.proofs.EdgeWords.{TakeBytes}
use Rattle.supervisor.proofs.EdgeWords.{ReadTables, Carry, Announce, Pause, Reply, Now, Later, HostCall, PartsRead}
use Rattle.supervisor.proofs.EdgeWords.{LogState, Logs, Took, are_seconds_short, Point, after, acted, announced}
use Rattle.supervisor.proofs.EdgeWords.{answered}
use Rattle.supervisor.proofs.EdgeWords.{before_handing, before_reading, byte_after, bytes_after, came_whole, come}
use Rattle.supervisor.proofs.EdgeWords.{handed_if, is_asked_for, is_last, is_announcement, nudged_if, order_for}
use Rattle.supervisor.proofs.EdgeWords.{ordered}
use Rattle.supervisor.proofs.EdgeWords.{point_after, reading}
use Rattle.init_words.specs.declared.orders.Answer.TheVariants as answer
use Rattle.init_words.specs.declared.orders.OrderKind.TheVariants as ask
use Rattle.init_words.specs.declared.orders.PowerKind.TheVariants as power
use Rattle.initctl_frame.specs.declared.requests.Cause.TheVariants.{Unknown, LeftOut}
use Rattle.initctl_frame.specs.declared.requests.HeardRequest.TheVariants as got
use Rattle.trace_events.specs.declared.happenings.Happening.TheVariants as past
use Rattle.trace_laws.proofs.Seconds.{is_short_request, sound_short}
use Rattle.host_calls.specs.declared.calls.Call.TheVariants.{Look}

-- A request.

seconds_short : (sleeptime : ℤ) → is_seconds (seconds_of sleeptime) ≡ true
seconds_short sleeptime = grind arith

runlevel_request : (runlevel : ℤ) (seconds : ℕ) → is_seconds seconds ≡ true
    → is_request (heard_of_runlevel runlevel seconds) ≡ true
runlevel_request runlevel seconds short = grind arith

command_request : (runlevel fail fail_now ok left : Bool) (asked : HeardRequest) → is_request asked ≡ true
    → is_request (cond runlevel asked (cond fail (got.Power power.Fail) (cond fail_now (got.Power power.FailNow)
    (cond ok (got.Power power.Ok) (cond left (got.Nothing LeftOut) (got.Nothing Unknown)))))) ≡ true
command_request true fail fail_now ok left asked short = short
command_request false true fail_now ok left asked short = refl
command_request false false true ok left asked short = refl
command_request false false false true left asked short = refl
command_request false false false false true asked short = refl
command_request false false false false false asked short = refl

ints_request : (magic command runlevel sleeptime : ℤ)
    → is_request (heard_of_ints magic command runlevel sleeptime) ≡ true
ints_request magic command runlevel sleeptime = grind (arith, command_request, runlevel_request, seconds_short)

request_short : (block : List ℕ) → is_request (heard_of block) ≡ true
request_short block = ints_request (int_at 0 block) (int_at 4 block) (int_at 8 block) (int_at 12 block)

-- The effect of a call.

abbrev Requests : List Event → Type 0
Requests so_far = list_all is_short_request so_far ≡ true

acted_requests : (id : List ℕ) (given : Answer) (so_far : List Event) → Requests so_far
    → Requests (acted id given so_far)
acted_requests id (answer.Born n) so_far all = all
acted_requests id answer.NotBorn so_far all = all
acted_requests id (answer.Ended status) so_far all = all
acted_requests id answer.Alive so_far all = all
acted_requests id answer.NoLook so_far all = all
acted_requests id answer.Hit so_far all = all
acted_requests id answer.Miss so_far all = all

answered_requests : (id : List ℕ) (given : Answer) (so_far : List Event) → Requests so_far
    → Requests (answered id given so_far)
answered_requests id given so_far all = by (is_asked_for id given so_far)
  where
    by : (b : Bool) → Requests (cond b (past.Told id ∷ acted id given so_far) so_far)
    by true = acted_requests id given so_far all
    by false = all

ordered_requests : (id : List ℕ) (order : OrderKind) (reply : Reply) (so_far : List Event) → Requests so_far
    → Requests (ordered id order reply so_far)
ordered_requests id order (Now given) so_far all = answered_requests id given (past.Asked id order ∷ so_far) all
ordered_requests id order Later so_far all = all

nudged_requests : (b : Bool) (so_far : List Event) → Requests so_far → Requests (nudged_if b so_far)
nudged_requests true so_far all = all
nudged_requests false so_far all = all

come_requests : (late : Option (List ℕ × Answer)) (so_far : List Event) → Requests so_far → Requests (come late so_far)
come_requests (Some late) so_far all = answered_requests late.0 late.1 so_far all
come_requests None so_far all = all

byte_requests : (byte : ℕ) (p : Point) → Requests p.past → Requests (byte_after byte p).past
byte_requests byte p all = by (length (p.over ++ byte ∷ []) == 384)
  where
    by : (b : Bool)
        → Requests (cond b (record p { over = []; past = past.Got (heard_of (p.over ++ byte ∷ [])) ∷ p.past })
        (record p { over = p.over ++ byte ∷ [] })).past
    by true = and_from (is_request (heard_of (p.over ++ byte ∷ []))) (list_all is_short_request p.past)
        (request_short (p.over ++ byte ∷ [])) all
    by false = all

bytes_requests : (bytes : List ℕ) (p : Point) → Requests p.past → Requests (bytes_after bytes p).past
bytes_requests [] p all = all
bytes_requests (byte ∷ bytes) p all = bytes_requests bytes (byte_after byte p) (byte_requests byte p all)

reading_requests : (parts : PartsRead) (so_far : List Event) → Requests so_far → Requests (reading parts ∷ so_far)
reading_requests parts so_far all =
    and_from (is_short_request (reading parts)) (list_all is_short_request so_far) (by parts) all
  where
    of_use : (b : Bool) (used : Event) → is_short_request used ≡ true
        → is_short_request (cond b used past.NotRead) ≡ true
    of_use true used short = short
    of_use false used short = refl

    by : (p : PartsRead) → is_short_request (reading p) ≡ true
    by p = grind arith

before_requests : (so_far : List Event) → Requests so_far → Requests (before_reading so_far)
before_requests (past.NewTable table ∷ so_far) all = all
before_requests (past.NotRead ∷ so_far) all = all
before_requests [] all = all
before_requests (_ ∷ so_far) all = all

handing_requests : (so_far : List Event) → Requests so_far → Requests (before_handing so_far)
handing_requests (past.Handed how ∷ so_far) all = all
handing_requests [] all = all
handing_requests (_ ∷ so_far) all = all

handed_requests : (b : Bool) (so_far : List Event) → Requests so_far → Requests (handed_if b so_far)
handed_requests true so_far all = all
handed_requests false so_far all = all

said_request : (happening : Event) → is_announcement happening ≡ true → is_short_request happening ≡ true
said_request happening said = grind arith

announced_requests : (happening : Event) (so_far : List Event) → Requests so_far → Requests (announced happening so_far)
announced_requests past.NotRead so_far all = before_requests so_far all
announced_requests (past.Handed how) so_far all = handing_requests so_far all
announced_requests happening so_far all = by (is_announcement happening) refl
  where
    by : (b : Bool) → is_announcement happening ≡ b → Requests (cond b (happening ∷ so_far) so_far)
    by true said =
        and_from (is_short_request happening) (list_all is_short_request so_far) (said_request happening said) all
    by false said = all

after_requests : (call : HostCall) (p : Point) → Requests p.past → Requests (after call p).past
after_requests (Start id command reply) p all = ordered_requests id ask.Start reply p.past all
after_requests (Look id reply) p all = ordered_requests id ask.Look reply p.past all
after_requests (Signal id sent reply) p all = ordered_requests id (order_for sent) reply p.past all
after_requests (Late late) p all =
    nudged_requests (is_last late p.lates) (come late p.past) (come_requests late p.past all)
after_requests (Clock (Ok reading)) p all = all
after_requests (Clock (Err fault)) p all = all
after_requests (TakeBytes room (Ok bytes)) p all = bytes_requests bytes p all
after_requests (TakeBytes room (Err fault)) p all = all
after_requests (ReadTables parts) p all = reading_requests parts p.past all
after_requests (Carry text back) p all = handed_requests (came_whole text back) p.past all
after_requests (Announce happening) p all = announced_requests happening p.past all
after_requests Pause p all = all

calls_requests : (calls : List HostCall) (p : Point) → Requests p.past → Requests (point_after calls p).past
calls_requests [] p all = all
calls_requests (call ∷ calls) p all = after_requests call (point_after calls p) (calls_requests calls p all)

requests_of : (trace : List Event) → are_short trace ≡ true → Requests trace
requests_of [] short = refl
requests_of (past.Got request ∷ so_far) short =
    let parts = and_parts (is_request request) (are_short so_far) short in
    and_from (is_request request) (list_all is_short_request so_far) parts.0 (requests_of so_far parts.1)
requests_of (happening ∷ so_far) short = requests_of so_far (and_parts (is_short happening) (are_short so_far) short).1

blocks_short : (blocks : List (List ℕ)) → list_all is_request (map heard_of blocks) ≡ true
blocks_short [] = refl
blocks_short (block ∷ blocks) = and_from (is_request (heard_of block)) (list_all is_request (map heard_of blocks))
    (request_short block) (blocks_short blocks)

pub given_short : (before given : List HeardRequest) (bytes : List ℕ) → requests_in_blocks bytes ≡ before ++ given
    → list_all is_request given ≡ true
given_short before given bytes is = (and_parts (list_all is_request before) (list_all is_request given) (sym
    (list_all-append is_request before given) ∙ ap (list_all is_request) (sym is) ∙ blocks_short (blocks_of bytes))).1

-- The trace of a record.

short_after : (goal : Goal) (calls : List HostCall) (p : Point) → is_sound goal (point_after calls p).past ≡ true
    → are_seconds_short goal p.past ≡ true → are_short (point_after calls p).past ≡ true
short_after goal calls p sound short = grind (arith, sound_short, calls_requests, requests_of)

-- a sound trace with short seconds is logged
pub logged : (goal : Goal) (calls : List HostCall) (p : Point) (old new : LogState)
    → is_sound goal (point_after calls p).past ≡ true → Logs old new p.past (point_after calls p).past
    → are_seconds_short goal p.past ≡ true → Took old new p.past (point_after calls p).past
logged goal calls p old new sound logs short = logs (short_after goal calls p sound short)

-- so the next calls are made under the same condition
pub short_then : (goal : Goal) (calls : List HostCall) (p : Point) → is_sound goal (point_after calls p).past ≡ true
    → are_seconds_short goal p.past ≡ true → are_seconds_short goal (point_after calls p).past ≡ true
short_then goal calls p sound short = and_from (is_seconds goal.grace) (are_short (point_after calls p).past)
    (and_parts (is_seconds goal.grace) (are_short p.past) short).0 (short_after goal calls p sound short)

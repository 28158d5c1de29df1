-- The trace of calls, part by part.
use Rattle.supervisor.proofs.EdgeWords.{◌≡◌, refl, ◌∙◌, ap, ℕ, ◌==◌, nat_lt, Bool, true, false, not, List, [], ◌∷◌}
use Rattle.supervisor.proofs.EdgeWords.{◌++◌}
use Rattle.supervisor.proofs.EdgeWords.{length, Ok, Err, arith, starts_with, and_parts, and_from, ltb-true, same_id-is}
use Rattle.supervisor.proofs.EdgeWords.{Goal, Event, Carry, Announce, HostCall, TextRead, Point, after, point_after}
use Rattle.supervisor.proofs.EdgeWords.{byte_after, bytes_after, was_reading, came_whole, came_cut, is_first}
use Rattle.supervisor.proofs.EdgeWords.{may_announce}
use Rattle.supervisor.proofs.EdgeWords.{is_in_place, are_in_place, tells_outcomes, has_trace}
use Rattle.trace_events.specs.declared.happenings.Handed.{Handed as HandOver}
use Rattle.trace_events.specs.declared.happenings.Handed.TheVariants as handed
use Rattle.trace_events.specs.declared.happenings.Happening.TheVariants as past
use Rattle.trace_events.specs.declared.steps.Step.TheVariants as step

-- the later calls continue where the earlier ones end: `ys` after `xs`
pub point_after-append : (ys xs : List HostCall) (p : Point)
    → point_after (ys ++ xs) p ≡ point_after ys (point_after xs p)
point_after-append [] xs p = refl
point_after-append (call ∷ ys) xs p = λ i. after call (point_after-append ys xs p i)

-- bytes taken in two calls have the same effect as in one
pub bytes_after-append : (xs ys : List ℕ) (p : Point) → bytes_after (xs ++ ys) p ≡ bytes_after ys (bytes_after xs p)
bytes_after-append [] ys p = refl
bytes_after-append (byte ∷ xs) ys p = bytes_after-append xs ys (byte_after byte p)

-- what is permitted after some calls is permitted after more of them
still_reading : (earlier more : List HostCall) → was_reading earlier ≡ true → was_reading (earlier ++ more) ≡ true
still_reading earlier more h = grind arith

-- the announcement of a hand-over after calls other than the carrying of a text
said_more : (goal : Goal) (how : HandOver) (call : HostCall) (earlier more : List HostCall) (so_far : List Event)
    → may_announce goal (past.Handed how) (call ∷ earlier) so_far ≡ true
    → may_announce goal (past.Handed how) ((call ∷ earlier) ++ more) so_far ≡ true
said_more goal how call earlier more so_far h = grind arith

-- a text that came back unchanged did not come back cut
whole_not_cut : (text : List ℕ) (back : TextRead) → came_whole text back ≡ true → not (came_cut text back) ≡ true
whole_not_cut text (Err fault) whole = refl
whole_not_cut text (Ok back) whole = by (came_cut text (Ok back)) refl
  where
    by : (b : Bool) → came_cut text (Ok back) ≡ b → not b ≡ true
    by true cut =
        let less = ltb-true (length back) (length text)
        (and_parts (starts_with ◌==◌ text back) (nat_lt (length back) (length text)) cut).1 in
        absurd (omega (arith, less, ap length (same_id-is text back whole)))
    by false cut = refl

said_first : (goal : Goal) (more : List HostCall) (so_far : List Event) → tells_outcomes more ≡ true
    → is_first goal step.Reexec so_far ≡ true → may_announce goal (past.Handed handed.Failed) more so_far ≡ true
said_first goal more so_far told h = grind (arith, whole_not_cut)

handed_more : (goal : Goal) (how : HandOver) (earlier more : List HostCall) (so_far : List Event)
    → tells_outcomes more ≡ true → may_announce goal (past.Handed how) earlier so_far ≡ true
    → may_announce goal (past.Handed how) (earlier ++ more) so_far ≡ true
handed_more goal how earlier more so_far told h = grind (arith, said_more, said_first)

announce_more : (goal : Goal) (happening : Event) (earlier more : List HostCall) (so_far : List Event)
    → tells_outcomes more ≡ true → may_announce goal happening earlier so_far ≡ true
    → may_announce goal happening (earlier ++ more) so_far ≡ true
announce_more goal happening earlier more so_far told h = grind (arith, still_reading, handed_more)

more_place : (goal : Goal) (call : HostCall) (earlier more : List HostCall) (so_far : List Event) → tells_outcomes more
    ≡ true → is_in_place goal call earlier so_far ≡ true → is_in_place goal call (earlier ++ more) so_far ≡ true
more_place goal call earlier more so_far told h = grind (arith, announce_more)

are_in_place-append : (goal : Goal) (ys xs : List HostCall) (p : Point) → tells_outcomes xs ≡ true → are_in_place goal
    ys (point_after xs p) ≡ true → are_in_place goal xs p ≡ true → are_in_place goal (ys ++ xs) p ≡ true
are_in_place-append goal [] xs p told later earlier = earlier
are_in_place-append goal (call ∷ ys) xs p told later earlier =
    let both = and_parts (is_in_place goal call ys (point_after ys (point_after xs p)).past)
    (are_in_place goal ys (point_after xs p)) later in
    let position : is_in_place goal call ys (point_after (ys ++ xs) p).past ≡ true =
    ap (λ (q : Point). is_in_place goal call ys q.past) (point_after-append ys xs p) ∙ both.0 in
    and_from (is_in_place goal call (ys ++ xs) (point_after (ys ++ xs) p).past) (are_in_place goal (ys ++ xs) p)
    (more_place goal call ys xs (point_after (ys ++ xs) p).past told position)
    (are_in_place-append goal ys xs p told both.1 earlier)

-- the outcomes of the texts are known in each of two parts
said_then : (how : HandOver) (xs : List HostCall) → tells_outcomes xs ≡ true
    → tells_outcomes (Announce (past.Handed how) ∷ xs) ≡ true
said_then how xs h = grind arith

tells_outcomes-append : (ys xs : List HostCall) → tells_outcomes ys ≡ true → tells_outcomes xs ≡ true
    → tells_outcomes (ys ++ xs) ≡ true
tells_outcomes-append [] xs later earlier = earlier
tells_outcomes-append (Carry text back ∷ ys) xs later earlier =
    let both = and_parts (came_whole text back) (tells_outcomes ys) later in
    and_from (came_whole text back) (tells_outcomes (ys ++ xs)) both.0 (tells_outcomes-append ys xs both.1 earlier)
tells_outcomes-append (Announce (past.Handed how) ∷ []) xs later earlier = said_then how xs earlier
tells_outcomes-append (Announce (past.Handed how) ∷ Carry text back ∷ ys) xs later earlier =
    tells_outcomes-append ys xs later earlier
tells_outcomes-append (Announce (past.Handed how) ∷ call ∷ ys) xs later earlier =
    tells_outcomes-append (call ∷ ys) xs later earlier
tells_outcomes-append (_ ∷ ys) xs later earlier = tells_outcomes-append ys xs later earlier

pub has_trace-append : (goal : Goal) (ys xs : List HostCall) (p : Point) → has_trace goal ys (point_after xs p) ≡ true
    → has_trace goal xs p ≡ true → has_trace goal (ys ++ xs) p ≡ true
has_trace-append goal ys xs p later earlier = grind (arith, tells_outcomes-append, are_in_place-append)

-- a call other than the carrying of a text determines a trace if it is permitted
called_once : (call : HostCall) (p : Point) → (after call p).generation ≡ p.generation
    → tells_outcomes (call ∷ []) ≡ true
called_once call p same = grind arith

pub has_trace-one : (goal : Goal) (call : HostCall) (p : Point) → (after call p).generation ≡ p.generation
    → is_in_place goal call [] p.past ≡ true → has_trace goal (call ∷ []) p ≡ true
has_trace-one goal call p same position = and_from (tells_outcomes (call ∷ [])) (are_in_place goal (call ∷ []) p)
    (called_once call p same) (and_from (is_in_place goal call [] p.past) true position refl)

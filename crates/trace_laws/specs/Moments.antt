-- The moments of a sound trace at which a law holds. A trace is a list of happenings, newest first; in the trace
-- `later ++ past`, the moment is the one after `past`.
use Rattle.std.specs.Prelude.{ℕ, IsTrue, List, ◌∷◌, ◌++◌}
use Rattle.trace_laws.specs.Words.{Level, Start, Asked, Hold, Settle, Birth, Hit, Goal, Event, is_sound}
use Rattle.init_words.specs.declared.orders.OrderKind.{OrderKind}
use Rattle.trace_laws.specs.Stretches.{is_steady}

-- `Law` holds for the past at each moment of each sound trace
abbrev pub AtEachMoment : (List Event → Type 0) → Type 0
AtEachMoment Law = (goal : Goal) (later past : List Event) → IsTrue (is_sound goal (later ++ past)) → Law past

-- at each birth in a sound trace, `Law` holds of the child's id and the trace before the birth
abbrev pub AtEachBirth : (List ℕ → List Event → Type 0) → Type 0
AtEachBirth Law =
    (goal : Goal) (later past : List Event) (id : List ℕ) (n : ℕ)
    → IsTrue (is_sound goal (later ++ Birth id n ∷ past)) → Law id past

-- at each announcement in a sound trace that a level is settled, `Law` holds of the level and the trace before it
abbrev pub AtEachSettle : (Level → List Event → Type 0) → Type 0
AtEachSettle Law =
    (goal : Goal) (later past : List Event) (level : Level)
    → IsTrue (is_sound goal (later ++ Settle level ∷ past)) → Law level past

-- at each order of this kind in a sound trace, `Law` holds of the id that the order is for and the trace before the
-- order
abbrev pub AtEachOrder : OrderKind → (List ℕ → List Event → Type 0) → Type 0
AtEachOrder ask Law =
    (goal : Goal) (later past : List Event) (id : List ℕ)
    → IsTrue (is_sound goal (later ++ Asked id ask ∷ past)) → Law id past

-- at each Hit in a sound trace, `Law` holds of the id that the signal was for and the trace before the Hit
abbrev pub AtEachHit : (List ℕ → List Event → Type 0) → Type 0
AtEachHit Law =
    (goal : Goal) (later past : List Event) (id : List ℕ)
    → IsTrue (is_sound goal (later ++ Hit id ∷ past)) → Law id past

-- whenever a sound trace has two births of the same id, `Law` holds of the id, the number of the first child, and the
-- happenings in between
abbrev pub BetweenBirths : (List ℕ → ℕ → List Event → Type 0) → Type 0
BetweenBirths Law =
    (goal : Goal) (later between past : List Event) (id : List ℕ) (n m : ℕ)
    → IsTrue (is_sound goal (later ++ Birth id n ∷ (between ++ Birth id m ∷ past))) → Law id m between

-- whenever a sound trace has two starts of the same id with no new stage or table in between, `Law` holds of the id,
-- the happenings in between, and the trace before the first start
abbrev pub BetweenStarts : (List ℕ → List Event → List Event → Type 0) → Type 0
BetweenStarts Law =
    (goal : Goal) (later between past : List Event) (id : List ℕ)
    → IsTrue (is_sound goal (later ++ Asked id Start ∷ (between ++ Asked id Start ∷ past)))
    → IsTrue (is_steady between) → Law id between past

-- whenever a sound trace has a hold and a later start of the same id with no new stage or table in between, `Law` holds
-- of the id, the happenings in between, and the trace before the hold
abbrev pub FromHoldToStart : (List ℕ → List Event → List Event → Type 0) → Type 0
FromHoldToStart Law =
    (goal : Goal) (later between past : List Event) (id : List ℕ)
    → IsTrue (is_sound goal (later ++ Asked id Start ∷ (between ++ Hold id ∷ past)))
    → IsTrue (is_steady between) → Law id between past

-- whenever a sound trace has an order and a later Hit for the same id, `Law` holds of the id, the order, the happenings
-- in between, and the trace before the order
abbrev pub FromOrderToHit : (List ℕ → OrderKind → List Event → List Event → Type 0) → Type 0
FromOrderToHit Law =
    (goal : Goal) (later between past : List Event) (id : List ℕ) (ask : OrderKind)
    → IsTrue (is_sound goal (later ++ Hit id ∷ (between ++ Asked id ask ∷ past))) → Law id ask between past

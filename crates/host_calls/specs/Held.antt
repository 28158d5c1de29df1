-- The children that a host holds: those that it started and has not reaped yet (waitpid(2), kill(2)).
use Rattle.std.specs.Prelude.{◌≡◌, ℕ, Bool, false, not, ◌==◌, IsTrue, List, [], ◌∷◌, ◌++◌, filter, Option, Some, None}
use Rattle.std.specs.Prelude.{IfSome}
use Rattle.std.specs.List.{list_any}
use Rattle.init_words.specs.declared.orders.Answer.TheVariants.{Born, Ended, Alive, Hit}
use Rattle.init_words.specs.Ids.{same_id}
use Rattle.host_calls.specs.declared.calls.Call.TheVariants.{Start, Look, Signal, Late}
use Rattle.host_calls.specs.declared.calls.Reply.{Reply}
use Rattle.host_calls.specs.declared.calls.Reply.TheVariants.{Now}
use Rattle.host_calls.specs.Calls.{HostCall}

-- the children, each with its id and its number, in the order of their births
abbrev pub HeldChildren : Type 0
HeldChildren = List (List ℕ × ℕ)

abbrev pub holds_child : List ℕ → HeldChildren → Bool
holds_child id held = list_any (λ child. same_id id child.0) held

abbrev pub holds_number : ℕ → HeldChildren → Bool
holds_number number held = list_any (λ child. number == child.1) held

-- the children, except those of the id
abbrev pub without_child : List ℕ → HeldChildren → HeldChildren
without_child id held = filter (λ child. not (same_id id child.0)) held

-- How a start changes the held children: if the answer is Born, no child of the id was held before, and one with this
-- number is held now. Any other answer changes nothing.
abbrev pub StartChangesHeld : HeldChildren → HeldChildren → List ℕ → Reply → Type 0
StartChangesHeld held now id (Now (Born number)) = (holds_child id held ≡ false) × (now ≡ held ++ (id, number) ∷ [])
StartChangesHeld held now id _ = now ≡ held

-- How a look changes the held children: if the answer is Ended, a child of the id was held before, and none is held
-- now. If the answer is Alive, a child of the id is held. Nothing else changes.
abbrev pub LookChangesHeld : HeldChildren → HeldChildren → List ℕ → Reply → Type 0
LookChangesHeld held now id (Now (Ended status)) = IsTrue (holds_child id held) × (now ≡ without_child id held)
LookChangesHeld held now id (Now Alive) = IsTrue (holds_child id held) × (now ≡ held)
LookChangesHeld held now id _ = now ≡ held

-- a signal can only reach a child that is held, and does not change which children are held
abbrev pub SignalChangesHeld : HeldChildren → HeldChildren → List ℕ → Reply → Type 0
SignalChangesHeld held now id (Now Hit) = IsTrue (holds_child id held) × (now ≡ held)
SignalChangesHeld held now id _ = now ≡ held

-- the effect of a call on the held children, for a host that knows them and returns every answer at once
abbrev pub CallChangesHeld : HostCall → HeldChildren → HeldChildren → Type 0
CallChangesHeld (Start id command reply) held now = StartChangesHeld held now id reply
CallChangesHeld (Look id reply) held now = LookChangesHeld held now id reply
CallChangesHeld (Signal id sent reply) held now = SignalChangesHeld held now id reply
CallChangesHeld (Late late) held now = (late ≡ None) × (now ≡ held)
CallChangesHeld _ held now = now ≡ held

-- if the children that the host holds after a call are known, they were known before it, and the call changed them as
-- `CallChangesHeld` states
abbrev pub HeldChildrenAfter : Option HeldChildren → Option HeldChildren → HostCall → Type 0
HeldChildrenAfter old new call =
    IfSome new (λ now. (before : HeldChildren) × (old ≡ Some before) × CallChangesHeld call before now)

-- the calls, newest first, are possible for a host that held no child before them and holds these children after them
abbrev pub CallsLeaveHeld : List HostCall → HeldChildren → Type 0
CallsLeaveHeld [] held = held ≡ []
CallsLeaveHeld (call ∷ calls) held = (before : HeldChildren) × CallsLeaveHeld calls before
    × CallChangesHeld call before held

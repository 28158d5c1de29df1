-- The children that a host holds after its calls, and the children in the trace; see waitpid(2). Calls are listed
-- newest first.
use Rattle.std.specs.Prelude.{◌≡◌, ℕ, false, List, ◌∷◌, ◌++◌, map, reverse}
use Rattle.init_words.specs.declared.orders.Answer.TheVariants.{Born}
use Rattle.supervisor.specs.EdgeWords.{Event, unreaped_children, Start, Now, HostCall, CallsLeaveHeld, HeldChildren}
use Rattle.supervisor.specs.EdgeWords.{holds_number}

-- no child was born with the number of a child that the host held at the time
abbrev pub AreNew : List HostCall → Type 0
AreNew calls = (later earlier : List HostCall) (id command : List ℕ) (number : ℕ) (held : HeldChildren)
    → calls ≡ later ++ Start id command (Now (Born number)) ∷ earlier → CallsLeaveHeld earlier held
    → holds_number number held ≡ false

-- the unreaped children of a trace, in the order of their births
abbrev pub unreaped_in_order : List Event → HeldChildren
unreaped_in_order past = reverse (map (λ child. (child.id, child.number)) (unreaped_children past))

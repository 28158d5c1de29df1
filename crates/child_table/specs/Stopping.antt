-- The progress of stopping children: which were sent no signal yet, which were sent SIGTERM, and when.
use Rattle.std.specs.Prelude.{◌≡◌, ℕ, Bool, true, false, ◌==◌, List, nat_lt, Option, Some, None}
use Rattle.std.specs.List.{list_any}
use Rattle.child_table.specs.declared.children.Stop.{Stop}
use Rattle.child_table.specs.declared.children.Stop.TheVariants.{Due, Termed}
use Rattle.child_table.specs.State.{SlotState}

-- the child must be stopped, and no signal was sent to it yet
abbrev pub is_stop_due : Option Stop → Bool
is_stop_due (Some Due) = true
is_stop_due _ = false

-- the last signal was a SIGTERM
abbrev pub is_termed : Option Stop → Bool
is_termed (Some (Termed sent)) = true
is_termed _ = false

-- the last signal was a SIGTERM at this time
abbrev pub is_termed_at : ℕ → Option Stop → Bool
is_termed_at time (Some (Termed sent)) = sent == time
is_termed_at time _ = false

-- the last signal was a SIGTERM before this time
abbrev pub is_termed_before : ℕ → Option Stop → Bool
is_termed_before time (Some (Termed sent)) = nat_lt sent time
is_termed_before time _ = false

-- the earliest time of a SIGTERM that was the last signal to a child; none if there is no such child
abbrev pub IsFirstTermed : List SlotState → Option ℕ → Type 0
IsFirstTermed slots None = list_any (λ (slot : SlotState). is_termed slot.stop) slots ≡ false
IsFirstTermed slots (Some time) = (list_any (λ (slot : SlotState). is_termed_at time slot.stop) slots ≡ true)
    × (list_any (λ (slot : SlotState). is_termed_before time slot.stop) slots ≡ false)

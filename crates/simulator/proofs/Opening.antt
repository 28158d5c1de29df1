-- The opening of a run: there is no table, or a table that was written, or was being written.
use Rattle.simulator.proofs.Words.{◌≡◌, subst, ℕ, List, Option, Appends, Keeps, Keeps-refl, Entry, table_of_text}
use Rattle.simulator.proofs.Words.{NewTable, event_text, SimFault, Leaves, TableEnds, opening_text, IsTooLong}
use Rattle.std.proofs.Common.{Result, Ok, Err}
use Rattle.simulator.specs.declared.running.SimFault.TheVariants as fault
use Rattle.simulator.proofs.Moves.{memory_before}

-- how the opening of a run ends if it does not reach its first moment
abbrev pub OpeningEnds : List ℕ → SimFault → Option (List ℕ) → Option (List ℕ) → Type 0
OpeningEnds inittab fault.Table old new = IsTooLong inittab × Keeps old new
OpeningEnds inittab (fault.Script n) old new = ⊥
OpeningEnds inittab (fault.Forbidden n why) old new = ⊥
OpeningEnds inittab fault.Write old new = Leaves fault.Write old new (opening_text inittab)
OpeningEnds inittab fault.Memory old new = Leaves fault.Memory old new (opening_text inittab)

pub none_opened : (inittab : List ℕ) (f : SimFault) (known : Option (List ℕ)) → TableEnds inittab f
    → OpeningEnds inittab f known known
none_opened inittab fault.Table known ends = (ends, Keeps-refl known)
none_opened inittab (fault.Script n) known ends = absurd ends
none_opened inittab (fault.Forbidden n why) known ends = absurd ends
none_opened inittab fault.Write known ends = absurd ends
none_opened inittab fault.Memory known ends = memory_before known (opening_text inittab)

left : (inittab : List ℕ) (f : SimFault) (old new : Option (List ℕ)) → Leaves f old new (opening_text inittab)
    → OpeningEnds inittab f old new
left inittab fault.Table old new leaves = absurd leaves
left inittab (fault.Script n) old new leaves = absurd leaves
left inittab (fault.Forbidden n why) old new leaves = absurd leaves
left inittab fault.Write old new leaves = leaves
left inittab fault.Memory old new leaves = leaves

pub opening_breaks : (inittab : List ℕ) (table : List Entry) (f : SimFault) (old new : Option (List ℕ))
    → table ≡ table_of_text inittab → Leaves f old new (event_text (NewTable table)) → OpeningEnds inittab f old new
opening_breaks inittab table f old new same leaves =
    left inittab f old new (subst (λ t. Leaves f old new (event_text (NewTable t))) same leaves)

pub opening_written : (inittab : List ℕ) (table : List Entry) (old new : Option (List ℕ)) → table
    ≡ table_of_text inittab → Appends old new (event_text (NewTable table)) → Appends old new (opening_text inittab)
opening_written inittab table old new same written = subst (λ t. Appends old new (event_text (NewTable t))) same written

-- a result is not both `Ok` and `Err`
pub no_fault : {S E P : Type 0} (r : Result S E) (x : S) (e : E) → r ≡ Ok x → r ≡ Err e → P
no_fault (Ok y) x e ok err = absurd (cc)
no_fault (Err y) x e ok err = absurd (cc)

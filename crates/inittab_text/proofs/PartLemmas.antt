-- Inittabs that consist of several texts.
use Rattle.inittab_text.proofs.Words.{◌≡◌, ℕ, true, List, Result, Ok, IsErrOf, ◌↔◌, arith, AreTooLong, AreTooMany}
use Rattle.inittab_text.proofs.Words.{are_readable}
use Rattle.inittab_text.specs.declared.faults.TableFault.{TableFault}
use Rattle.inittab_text.specs.declared.faults.TableFault.TheVariants as table

-- texts that are neither too many nor too long can be read
pub readable : (texts : List (List ℕ)) → (AreTooMany texts → ⊥) → (AreTooLong texts → ⊥) → are_readable texts ≡ true
readable texts few short = grind arith

-- texts that were read were neither too many nor too long
pub was_readable : {T : Type 0} (result : Result T TableFault) (value : T) (texts : List (List ℕ)) → result ≡ Ok value
    → (IsErrOf result table.Parts ↔ AreTooMany texts) → (IsErrOf result table.TooLong ↔ AreTooLong texts)
    → are_readable texts ≡ true
was_readable result value texts is many long = grind arith

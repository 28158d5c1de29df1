-- What a run left, if its writer was only flushed since then.
use Rattle.initd_command.proofs.Words.{◌≡◌, sym, subst, Result, Ok, Err, IfErr, OnOk, ◌⊎◌, inl, inr, List, ℕ, true}
use Rattle.initd_command.proofs.Words.{Option, Keeps, KnownTexts, Appends-kept, Keeps-trans, Done, Ends, Scenario}
use Rattle.initd_command.proofs.Words.{past_text, HasInittab, IsInittab, TakesParts, is_taken, told_of, RunArguments}
use Rattle.std.specs.Result.{IsErrAnd}
use Rattle.simulator.specs.declared.running.SimFault.{SimFault}
use Rattle.simulator.specs.declared.running.SimFault.TheVariants as fault
use Rattle.initd_command.specs.declared.run.Obstacle.{Obstacle}
use Rattle.initd_command.specs.declared.run.Inittab.{Inittab}

pub done_kept : (s : Scenario) (old mid new : Option (List ℕ)) → Done s old mid → Keeps mid new → Done s old new
done_kept s old mid new (past, rested, written) kept =
    (past, rested, Appends-kept old mid new (past_text past) written kept)

pub ends_kept : (s : Scenario) (f : SimFault) (old mid new : Option (List ℕ)) → Ends s f old mid → Keeps mid new
    → Ends s f old new
ends_kept s fault.Table old mid new (long, none) kept = (long, Keeps-trans old mid new none kept)
ends_kept s (fault.Script n) old mid new (rest, past, number, rested, written, such) kept =
    (rest, past, number, rested, Appends-kept old mid new (past_text past) written kept, such)
ends_kept s (fault.Forbidden n why) old mid new (rest, past, number, rested, written, such) kept =
    (rest, past, number, rested, Appends-kept old mid new (past_text past) written kept, such)
ends_kept s fault.Write old mid new (rest, past, run, (front, back, is, written, some)) kept =
    (rest, past, run, (front, back, is, Appends-kept old mid new front written kept, some))
ends_kept s fault.Memory old mid new (rest, past, run, (front, back, is, written)) kept =
    (rest, past, run, (front, back, is, Appends-kept old mid new front written kept))

-- a simulated run is done, or ended by a fault
pub either_end : {T : Type 0} (r : Result T SimFault) (D : Type 0) (E : SimFault → Type 0) → OnOk r D → IfErr r E
    → D ⊎ ((f : SimFault) × E f)
either_end (Ok value) D E on_ok on_err = inl on_ok
either_end (Err f) D E on_ok on_err = inr (f, on_err)

pub either_kept : (s : Scenario) (old mid new : Option (List ℕ)) → Done s old mid ⊎ ((f : SimFault) × Ends s f old mid)
    → Keeps mid new → Done s old new ⊎ ((f : SimFault) × Ends s f old new)
either_kept s old mid new (inl whole) kept = inl (done_kept s old mid new whole kept)
either_kept s old mid new (inr (f, ends)) kept = inr (f, ends_kept s f old mid new ends kept)

-- the inittab that was read is one that the run accepts
pub read_taken : (text_at : KnownTexts) (service : RunArguments) (read : Inittab) → IsInittab text_at service read
    → HasInittab text_at service (TakesParts service)
read_taken text_at service read (parts, are, (readable, told, table), taken) = (
  parts,
  are,
  readable,
  subst (λ t. is_taken service (told_of parts) t ≡ true) table
      (subst (λ lines. is_taken service lines read.table ≡ true) told taken),
)

-- what holds of an error holds of the same error passed on
pub handed_on : {T : Type 0} (r : Result T Obstacle) (given : Obstacle) (So : Obstacle → Type 0)
    → IsErrAnd r (λ fault. fault ≡ given) → So given → IfErr r So
handed_on (Ok value) given So is so = tt
handed_on (Err error) given So is so = subst So (sym is) so

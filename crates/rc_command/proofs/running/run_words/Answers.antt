use Rattle.rc_command.proofs.CommonWords.{inl, inr, refl, sym, subst, IsSome}
use Rattle.command_words.proofs.Refusals.{refused_by}
use Rattle.rc_command.proofs.running.run_words.Goals as goal

pub returns-in-Ok-clause-done : goal.returns-in-Ok-clause-done
returns-in-Ok-clause-done g c = λ _ is. let reads = rw c.as_slice-2.ensures.value at c.in-Ok.ensures.ok in
    (_, reads, c.run_asked.ensures.done is)

pub returns-in-Ok-clause-part : goal.returns-in-Ok-clause-part
returns-in-Ok-clause-part g c = λ _.
    let reads = rw c.as_slice-2.ensures.value at c.in-Ok.ensures.ok in
    elim c.run_asked.ensures.part [ inl same ↦ inl same | inr part ↦ inr (_, reads, part) ]

pub returns-in-Ok-clause-ran : goal.returns-in-Ok-clause-ran
returns-in-Ok-clause-ran g c = λ _.
    let reads = rw c.as_slice-2.ensures.value at c.in-Ok.ensures.ok in
    elim c.run_asked.ensures.ran
    [ inl (fault, same, told) ↦ inl (inr fault, same, told) | inr ran ↦ inr (_, reads, ran) ]

pub returns-in-Ok-clause-parsed : goal.returns-in-Ok-clause-parsed
returns-in-Ok-clause-parsed g c = λ _ _. let reads = rw c.as_slice-2.ensures.value at c.in-Ok.ensures.ok in
    subst IsSome (sym reads) refl

pub returns-clause-refused : goal.returns-clause-refused
returns-clause-refused g c = λ is.
    let usage = rw c.as_slice-2.ensures.value at c.in-Err.ensures.usage in
    refused_by c.in-Err.fault c.report_rejected.result usage c.report_rejected.ensures.memory is

pub returns-in-Ok-clause-kept : goal.returns-in-Ok-clause-kept
returns-in-Ok-clause-kept g c = λ _ is. let reads = rw c.as_slice-2.ensures.value at c.in-Ok.ensures.ok in
    (_, reads, c.run_asked.ensures.kept is)

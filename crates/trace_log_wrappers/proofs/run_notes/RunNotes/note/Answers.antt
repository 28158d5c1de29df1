use Rattle.trace_log_wrappers.proofs.Words.{rules, ◌≡◌, false, sym, subst, Ok, Err, OnOk, Result, AreNotesOf}
use Rattle.std.specs.Result.{is_err}
use Rattle.trace_log_wrappers.proofs.run_notes.RunNotes.note.Goals as goal

was_ok : {T E : Type 0} (r : Result T E) (P : Type 0) → is_err r ≡ false → OnOk r P → P
was_ok (Ok value) P works holds = holds
was_ok (Err fault) P works holds = absurd (cc)

pub returns-else-is_err-clause-notes : goal.returns-else-is_err-clause-notes
returns-else-is_err-clause-notes g c = λ past notes.
    let works : is_err c.note_child.result ≡ false = search rules in
    let old : AreNotesOf _ past = subst (λ n. AreNotesOf n past) (sym c.self.view_is) notes in
    record {
      last = c.end_behind-self-inside.ensures past old.last;
      running = λ complete. was_ok c.note_child.result _ works c.note_child.ensures past (old.running complete);
    }

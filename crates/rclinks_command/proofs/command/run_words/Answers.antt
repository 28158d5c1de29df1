use Rattle.rclinks_command.proofs.Words.{◌∙◌, inl, inr, ap, map, string_bytes, option_map, subst, found_of}
use Rattle.rclinks_command.proofs.Words.{rows_of, asked_by, keeps_going}
use Rattle.command_words.proofs.Refusals.{refused_by, rejected_by}
use Rattle.rclinks_command.proofs.AnswerLemmas.{does, does_part, refused, same_line, told}
use Rattle.rclinks_command.proofs.FreeLine.{is_free_line}
use Rattle.rclinks_command.specs.Command.{Does, DoesPart, IsRefusedBy, TellsRefused}
use Rattle.rclinks_command.specs.LineOptions.{line_options}
use Rattle.rclinks_command.specs.declared.command.TheConstants.{MANUAL}
use Rattle.rclinks_command.proofs.command.run_words.Goals as goal

pub returns-in-Err-clause-refused : goal.returns-in-Err-clause-refused
returns-in-Err-clause-refused g c = λ is.
    inl (ap (option_map asked_by) (refused_by c.in-Err.fault c.report_rejected.result
    (c.in-Err.ensures.usage is_free_line) c.report_rejected.ensures.memory is))

pub returns-in-Err-clause-usage : goal.returns-in-Err-clause-usage
returns-in-Err-clause-usage g c = λ _ _.
    rejected_by c.in-Err.fault c.report_rejected.result MANUAL.now _ _ c.report_rejected.ensures.usage
    c.report_rejected.ensures.memory

pub returns-in-Err-clause-told : goal.returns-in-Err-clause-told
returns-in-Err-clause-told g c = λ _ is.
    inl (ap (option_map asked_by) (refused_by c.in-Err.fault c.report_rejected.result
    (c.in-Err.ensures.usage is_free_line) c.report_rejected.ensures.memory is))

pub returns-clause-done : goal.returns-clause-done
returns-clause-done g c = λ _ done.
    let asked = asked_by (rows_of (found_of c.in-Ok.matches)) in
    let said = line_options c.line_of-line.result in
    let same = same_line asked said (map string_bytes c.args.facilities.now) (map (λ file. file.now)
    c.in-Ok-files_of.files.items) (rw c.as_slice.ensures.value at c.line_of-line.ensures) c.in-Ok-files_of.ensures in (
      _,
      ap (option_map asked_by) (c.in-Ok.ensures.ok is_free_line),
      subst (λ line. Does (g.T.Texts.text_at c.args.texts.now) line (g.F.LinkFolders.scripts_in c.args.folders.now)
          (g.F.LinkFolders.held c.args.folders.now) (g.F.LinkFolders.held c.write.new.folders)
          (g.W.Write.contents c.args.out.now) (g.W.Write.contents c.write.new.out)) same
          (does (g.T.Texts.text_at c.args.texts.now) said (g.F.LinkFolders.scripts_in c.args.folders.now)
          (g.F.LinkFolders.held c.args.folders.now) (g.F.LinkFolders.held c.write.new.folders)
          (g.W.Write.contents c.args.out.now) (g.W.Write.contents c.write.new.out) c.answer_of-answer.result.work
          c.answer_of-answer.ensures.asked (c.write.ensures.done done)),
    )

pub returns-clause-refused : goal.returns-clause-refused
returns-clause-refused g c = λ is.
    let asked = asked_by (rows_of (found_of c.in-Ok.matches)) in
    let said = line_options c.line_of-line.result in
    let same = same_line asked said (map string_bytes c.args.facilities.now) (map (λ file. file.now)
    c.in-Ok-files_of.files.items) (rw c.as_slice.ensures.value at c.line_of-line.ensures) c.in-Ok-files_of.ensures in
    inr (
      _,
      ap (option_map asked_by) (c.in-Ok.ensures.ok is_free_line),
      subst (λ line. IsRefusedBy (g.T.Texts.text_at c.args.texts.now) line
          (g.F.LinkFolders.scripts_in c.args.folders.now) (g.F.LinkFolders.held c.args.folders.now)) same
          (refused _ c.answer_of-answer.result.work c.answer_of-answer.ensures.refused (c.write.ensures.refused is).0),
    )

pub returns-clause-told : goal.returns-clause-told
returns-clause-told g c = λ _ is.
    let asked = asked_by (rows_of (found_of c.in-Ok.matches)) in
    let said = line_options c.line_of-line.result in
    let same = same_line asked said (map string_bytes c.args.facilities.now) (map (λ file. file.now)
    c.in-Ok-files_of.files.items) (rw c.as_slice.ensures.value at c.line_of-line.ensures) c.in-Ok-files_of.ensures in
    inr (
      _,
      ap (option_map asked_by) (c.in-Ok.ensures.ok is_free_line),
      λ plain. subst (λ line. TellsRefused (g.T.Texts.text_at c.args.texts.now) line
          (g.F.LinkFolders.scripts_in c.args.folders.now) (g.F.LinkFolders.held c.args.folders.now)
          (g.E.Reporter.reports c.args.err.now) (g.E.Reporter.reports c.write.new.err)) same
          (told (g.T.Texts.text_at c.args.texts.now) said (g.F.LinkFolders.scripts_in c.args.folders.now)
          (g.F.LinkFolders.held c.args.folders.now) (g.E.Reporter.reports c.args.err.now)
          (g.E.Reporter.reports c.write.new.err) c.answer_of-answer.result.report.items (c.write.ensures.refused is).1
          (refused _ c.answer_of-answer.result.work (c.answer_of-answer.ensures.told (ap keeps_going same ∙ plain))
          (c.write.ensures.refused is).0)),
    )

pub returns-clause-part : goal.returns-clause-part
returns-clause-part g c = λ _.
    let asked = asked_by (rows_of (found_of c.in-Ok.matches)) in
    let said = line_options c.line_of-line.result in
    let same = same_line asked said (map string_bytes c.args.facilities.now) (map (λ file. file.now)
    c.in-Ok-files_of.files.items) (rw c.as_slice.ensures.value at c.line_of-line.ensures) c.in-Ok-files_of.ensures in
    elim c.write.ensures.part [
      | inl none ↦ inl none
      | inr part ↦ inr (
        _,
        ap (option_map asked_by) (c.in-Ok.ensures.ok is_free_line),
        subst (λ line. DoesPart (g.T.Texts.text_at c.args.texts.now) line (g.F.LinkFolders.scripts_in
            c.args.folders.now) (g.F.LinkFolders.held c.args.folders.now) (g.F.LinkFolders.held c.write.new.folders)
            (g.W.Write.contents c.args.out.now) (g.W.Write.contents c.write.new.out)) same
            (does_part (g.T.Texts.text_at c.args.texts.now) said (g.F.LinkFolders.scripts_in c.args.folders.now)
            (g.F.LinkFolders.held c.args.folders.now) (g.F.LinkFolders.held c.write.new.folders)
            (g.W.Write.contents c.args.out.now)
            (g.W.Write.contents c.write.new.out) c.answer_of-answer.result.work c.answer_of-answer.ensures.asked part),
      )
    ]

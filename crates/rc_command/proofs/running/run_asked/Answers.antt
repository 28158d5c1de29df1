use Rattle.rc_command.proofs.CommonWords.{refl, ◌∙◌, ap, inl, inr, Global, List, String, map, string_bytes, ℕ}
use Rattle.rc_command.proofs.CommonWords.{RcArguments}
use Rattle.rc_command.proofs.CommonWords.{arguments_at, arguments_of}
use Rattle.rc_command.proofs.Reported.{fault_of, reports_asked, runs_asked, said_reports, said_runs}
use Rattle.rc_command.proofs.running.run_asked.Goals as goal

abbrev texts : List (String Global) → List (List ℕ)
texts names = map (λ (name : String Global). string_bytes name) names

pub returns-clause-done : goal.returns-clause-done
returns-clause-done g c =
    let names_at = g.F.Folders.names_at c.args.folders.now in
    let run : RcArguments = arguments_at c.as_str-dir.result.now
    (record { before = c.in-Ok.before; new = c.args.arguments.now.new }) c.entering-options.result in
    reports_asked (g.L.LevelFiles.file_at c.args.levels.now) names_at (arguments_of c.args.arguments.now) c.in-Ok.before
    c.as_str-dir.result.now c.entering-options.result c.run_names-status.result c.keep_level.result _ _ _ _
    c.in-Ok.ensures.ok c.as_str-dir.ensures.value c.entering-options.ensures c.keep_level.ensures.status
    (λ whole. said_reports names_at run c.as_str-dir.result.now c.as_str-2.result.now c.as_str.result.now
    (texts c.in-Ok-previous_names.previous.items) (texts c.in-Ok-names.names.items) _ _ _ refl
    (c.as_str-2.ensures.value ∙ c.in-Ok-folder_of.ensures)
    (c.as_str.ensures.value ∙ c.in-Ok-folder_of.ensures) c.in-Ok-previous_names.ensures c.in-Ok-names.ensures.names
    (rw (c.deref.ensures.value, c.deref-2.ensures.value) at c.run_names-status.ensures.done whole))

pub returns-clause-ran : goal.returns-clause-ran
returns-clause-ran g c = elim c.run_names-status.ensures.ran [
  | inl (fault, same, host) ↦ inl (
    fault_of (arguments_of c.args.arguments.now).file c.run_names-status.result _ _ _ c.keep_level.ensures.status fault,
    same,
    ap g.H.Host.told host,
  )
  | inr some ↦
      (let names_at = g.F.Folders.names_at c.args.folders.now in
      let run : RcArguments = arguments_at c.as_str-dir.result.now
      (record { before = c.in-Ok.before; new = c.args.arguments.now.new }) c.entering-options.result in
      inr
      (runs_asked (g.L.LevelFiles.file_at c.args.levels.now) names_at (arguments_of c.args.arguments.now) c.in-Ok.before
      c.as_str-dir.result.now c.entering-options.result c.run_names-status.result c.keep_level.result _ _ _ _ _ _ _ _
      c.in-Ok.ensures.ok c.as_str-dir.ensures.value c.entering-options.ensures c.keep_level.ensures.status
      (ap g.E.Reporter.reports c.in-Ok.ensures.silent) (
        (λ dry. ap g.H.Host.told (c.run_names-status.ensures.dry dry)),
        (λ wet. said_runs names_at run c.as_str-dir.result.now c.as_str-2.result.now c.as_str.result.now
            (texts c.in-Ok-previous_names.previous.items) (texts c.in-Ok-names.names.items) _ _ _ _ _ _ _ refl
            (c.as_str-2.ensures.value ∙ c.in-Ok-folder_of.ensures)
            (c.as_str.ensures.value ∙ c.in-Ok-folder_of.ensures) c.in-Ok-previous_names.ensures
            c.in-Ok-names.ensures.names
            (rw (c.deref.ensures.value, c.deref-2.ensures.value) at some wet)),
      )))
]

pub returns-clause-spoken : goal.returns-clause-spoken
returns-clause-spoken g c = c.keep_level.ensures.spoken c.run_names-status.ensures.spoken

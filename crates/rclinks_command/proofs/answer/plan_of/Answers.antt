use Rattle.rclinks_command.proofs.Words.{◌≡◌, ◌∙◌, ℕ, Bool, List, None, inr, inl, codes, map, slice_get, subst, sym}
use Rattle.rclinks_command.proofs.Words.{or_parts}
use Rattle.rclinks_command.proofs.Words.{AreScripts, FileFault, HasNoPlan, IsPlan, KnownTexts, Reads, ReadsTo}
use Rattle.rclinks_command.proofs.Words.{ReportsFile}
use Rattle.rclinks_command.proofs.Words.{ReportsPlan, ScriptText, ReportsWarning, keeps_going}
use Rattle.std.proofs.lemmas.Result.{IfOk-weaker, IfErr-weaker}
use Rattle.rclinks_command.specs.LineOptions.{line_options}
use Rattle.rclinks_command.proofs.ReadingLemmas.{all_read, all_scripts, none_first, refused_first, some_first}
use Rattle.rclinks_command.proofs.ReportLemmas.{refused_told, tells-then, warned_told}
use Rattle.rclinks_command.proofs.answer.plan_of.Goals as goal

-- if there is no first fault, all paths yield scripts
all_given : (keeps_going : Bool) (text_at : KnownTexts) (paths : List (List ℕ)) (scripts : List ScriptText)
    (faults : List FileFault)
    → None ≡ slice_get faults 0 → ReadsTo keeps_going text_at paths scripts faults → AreScripts text_at paths scripts
all_given keeps_going text_at paths scripts faults first reads =
    let none = none_first faults first in
    let read = all_read keeps_going text_at paths scripts faults reads (inr none) in
    all_scripts text_at paths scripts (subst (λ faults. Reads text_at paths scripts faults) none read)

pub returns-clause-told : goal.returns-clause-told
returns-clause-told g c = λ plain is.
    let text_at = g.T.Texts.text_at c.args.texts.now in
    let paths = map (λ file. file.now) c.args.line.now.files.now in
    let faults = c.in_ok-faults.faults.items in
    let first = some_first faults c.in-Some.fault.now (rw c.deref.ensures.value at c.in-Some.ensures.value) in
    let told = refused_told text_at paths faults first.0 c.in-Some.fault.now _ _
    (c.in_ok-faults.ensures.told plain) first.1 (sym c.refusal_for.ensures ∙ is) in
    inl (subst (λ report. ReportsFile text_at paths c.args.reading.now.report.items report.items)
    (sym c.add_last.ensures.untold) told)

pub returns-in-None-clause-planned : goal.returns-in-None-clause-planned
returns-in-None-clause-planned g c =
    let scripts = c.read_files.new.reading.scripts.items in
    let all = all_given (keeps_going (line_options c.args.line.now)) (g.T.Texts.text_at c.args.texts.now)
    (map (λ file. file.now) c.args.line.now.files.now) scripts c.in_ok-faults.faults.items
    (rw c.deref.ensures.value at c.in-None.ensures.value) c.in_ok-faults.ensures.read in
    rw c.if-line.false (IfOk-weaker c.plan_all.result _ _
    (λ plan is. (scripts, all, subst (λ ss. IsPlan ss plan) c.in_ok-add_last.ensures.scripts is))
    c.plan_all.ensures.planned)

pub returns-in-None-clause-refused : goal.returns-in-None-clause-refused
returns-in-None-clause-refused g c =
    let scripts = c.read_files.new.reading.scripts.items in
    let all = all_given (keeps_going (line_options c.args.line.now)) (g.T.Texts.text_at c.args.texts.now)
    (map (λ file. file.now) c.args.line.now.files.now) scripts c.in_ok-faults.faults.items
    (rw c.deref.ensures.value at c.in-None.ensures.value) c.in_ok-faults.ensures.read in
    rw c.if-line.false (IfErr-weaker c.plan_all.result _ _
    (λ refusal is status. inr (scripts, all, subst HasNoPlan c.in_ok-add_last.ensures.scripts (is status)))
    c.plan_all.ensures.refused)

pub returns-in-None-clause-told : goal.returns-in-None-clause-told
returns-in-None-clause-told g c = λ plain.
    let text_at = g.T.Texts.text_at c.args.texts.now in
    let paths = map (λ file. file.now) c.args.line.now.files.now in
    let scripts = c.read_files.new.reading.scripts.items in
    let faults = c.in_ok-faults.faults.items in
    let old = c.args.reading.now.report.items in
    let mid = c.add_warnings.new.report.items in
    let new = c.plan_all.new.reading.report.items in
    let first = rw c.deref.ensures.value at c.in-None.ensures.value in
    let all =
    all_given
    (keeps_going (line_options c.args.line.now)) text_at paths scripts faults first c.in_ok-faults.ensures.read in
    let warned = warned_told text_at paths faults old c.read_files.new.reading.report.items
    (c.in_ok-faults.ensures.told plain) (none_first faults first) in
    let same = subst (λ report. ReportsWarning old report.items) (sym c.add_last.ensures.untold) warned in
    let odd =
    tells-then (codes "warning: ") old c.add_last.new.reading.report.items mid same c.in_ok-add_warnings.ensures in
    IfErr-weaker c.plan_all.result _ _
    (λ refusal told is. inr (
      scripts,
      all,
      subst (λ ss. ReportsPlan ss old new) c.in_ok-add_last.ensures.scripts (mid, odd, told is),
    )) (c.plan_all.ensures.told (or_parts c.args.line.now.skips c.args.line.now.all plain).1)

pub returns-2-clause-refused : goal.returns-2-clause-refused
returns-2-clause-refused g c = λ is.
    let text_at = g.T.Texts.text_at c.args.texts.now in
    let paths = map (λ file. file.now) c.args.line.now.files.now in
    let scripts = c.read_files.new.reading.scripts.items in
    let faults = c.in_ok-faults.faults.items in
    let fault = c.in-Some-first.fault.now in
    let first = some_first faults fault (rw c.deref.ensures.value at c.in-Some-first.ensures.value) in
    let reads : ReadsTo (keeps_going (line_options c.args.line.now)) text_at paths scripts faults =
    c.in_ok-faults.ensures.read in
    inl (refused_first text_at paths reads.0 reads.1 scripts faults first.0 fault reads.2 reads.3 first.1
    (sym c.refusal_for-in-Some-first.ensures ∙ is))

-- Carrying out an answer is what the command line asks for.
use Rattle.rclinks_command.proofs.Words.{◌≡◌, ◌⊎◌, inl, inr, ℕ, Bool, true, false, List, [], Option, None}
use Rattle.rclinks_command.proofs.Words.{Some, Result, Ok, Err, IfErr, IfOk, ap, subst, ◌∙◌}
use Rattle.rclinks_command.proofs.Words.{KnownTexts, Line, ScriptText, PlannedText, KnownFolders, KnownScripts}
use Rattle.std.specs.Io.KnownBytes.{Appends}
use Rattle.program_io.specs.Reports.{AppendsReport, ReportList}
use Rattle.program_io.specs.Writing.{AppendsPrefix}
use Rattle.rclinks_command.specs.Answers.{Did, DidPart, IsRefusal, IsWork}
use Rattle.rclinks_command.specs.Command.{Does, DoesBy, DoesPart, PartBy, PlanOf, ScriptsOf, TakenBy, TellsRefused}
use Rattle.rclinks_command.specs.Command.{line_with}
use Rattle.rclinks_command.specs.Refusals.{refusal_status}
use Rattle.rclinks_command.specs.Reports.{ReportsRefused}
use Rattle.rclinks_command.specs.declared.answer.Work.{Work}
use Rattle.rclinks_command.specs.declared.answer.Work.TheVariants.{Change, Print}
use Rattle.rclinks_command.specs.declared.report.Refusal.{Refusal}
use Rattle.rclinks_command.proofs.WritingLemmas.{in_folders, written}

-- a property of the scripts implies another one that follows from it
pub scripts_of : (text_at : KnownTexts) (skips last : Bool) (paths : List (List ℕ)) (P Q : List ScriptText → Type 0)
    → ((scripts : List ScriptText) → P scripts → Q scripts) → ScriptsOf text_at skips last paths P
    → ScriptsOf text_at skips last paths Q
scripts_of text_at false last paths P Q follows (scripts, are, holds) = (scripts, are, follows _ holds)
scripts_of text_at true last paths P Q follows (read, rest, faults, reads, left, holds) =
    (read, rest, faults, reads, left, follows rest holds)

-- the same for a property of their plan
pub plan_of : (text_at : KnownTexts) (line : Line) (P Q : List PlannedText → Type 0)
    → ((plan : List PlannedText) → P plan → Q plan) → PlanOf text_at line P → PlanOf text_at line Q
plan_of text_at line P Q follows =
    scripts_of text_at line.skips line.last line.files _ _ (λ scripts (plan, is, holds). (plan, is, follows plan holds))

did : (asked : Option (List ℕ)) (line : Line) (scripts : KnownScripts) (before after : KnownFolders)
    (old new : Option (List ℕ)) (work : Work) (plan : List PlannedText)
    → IsWork asked line scripts before work plan → Did (Ok work) before after old new
    → DoesBy asked line scripts before after old new plan
did None line scripts before after old new (Print text) plan is done = subst (Appends old new) is done
did None line scripts before after old new (Change to changes) plan is done = absurd is
did (Some dir) line scripts before after old new (Print text) plan (dry, is) done =
    rw dry (in_folders line.keeps before dir plan _ _ (λ plan preview. (text.items, preview, done)) is)
did (Some dir) line scripts before after old new (Change to changes) plan (dry, same, is) done =
    rw dry (in_folders line.keeps before dir plan _ _
    (λ plan wanted. written before after scripts line.prunes dir plan changes.items wanted (rw same at done)) is)

pub does : (text_at : KnownTexts) (line : Line) (scripts : KnownScripts) (before after : KnownFolders)
    (old new : Option (List ℕ)) (work : Result Work Refusal)
    → IfOk work (λ work. PlanOf text_at line (IsWork line.dir line scripts before work)) → Did work before after old new
    → Does text_at line scripts before after old new
does text_at line scripts before after old new (Ok work) asked done =
    plan_of text_at line _ _ (λ plan is. did line.dir line scripts before after old new work plan is done) asked
does text_at line scripts before after old new (Err why) asked done = absurd done

did_part : (asked : Option (List ℕ)) (line : Line) (scripts : KnownScripts) (before after : KnownFolders)
    (old new : Option (List ℕ)) (work : Work) (plan : List PlannedText)
    → IsWork asked line scripts before work plan → DidPart (Ok work) before after old new
    → PartBy asked line scripts before after old new plan
did_part None line scripts before after old new (Print text) plan is done = subst (AppendsPrefix old new) is done
did_part None line scripts before after old new (Change to changes) plan is done = absurd is
did_part (Some dir) line scripts before after old new (Print text) plan (dry, is) done =
    rw dry (in_folders line.keeps before dir plan _ _ (λ plan preview. (text.items, preview, done)) is)
did_part (Some dir) line scripts before after old new (Change to changes) plan (dry, same, is) (count, made) =
    rw dry
    (in_folders line.keeps before dir plan _ _ (λ plan wanted. (changes.items, count, wanted, (rw same at made))) is)

pub does_part : (text_at : KnownTexts) (line : Line) (scripts : KnownScripts) (before after : KnownFolders)
    (old new : Option (List ℕ)) (work : Result Work Refusal)
    → IfOk work (λ work. PlanOf text_at line (IsWork line.dir line scripts before work))
    → DidPart work before after old new → DoesPart text_at line scripts before after old new
does_part text_at line scripts before after old new (Ok work) asked done =
    plan_of text_at line _ _ (λ plan is. did_part line.dir line scripts before after old new work plan is done) asked
does_part text_at line scripts before after old new (Err why) asked done = absurd done

-- a refusal has its reason
pub refused : (P : Type 0) (work : Result Work Refusal) → IfErr work (λ why. refusal_status why ≡ 1 → P)
    → IsRefusal work → P
refused P (Ok work) reason is = absurd is
refused P (Err why) reason is = reason is

-- the report contains the reason
pub told : (text_at : KnownTexts) (line : Line) (scripts : KnownScripts) (before : KnownFolders)
    (old new : ReportList) (report : List ℕ)
    → AppendsReport old new report
    → ReportsRefused text_at line.last line.files [] report ⊎ PlanOf text_at line (TakenBy line.dir line scripts before)
    → TellsRefused text_at line scripts before old new
told text_at line scripts before old new report wrote why = elim why [
  | inl reports ↦ inl (report, reports, wrote)
  | inr taken ↦ inr taken
]

-- the command line with the files that are read
pub same_line : (asked said : Line) (facilities paths : List (List ℕ)) → said ≡ record asked { files = paths }
    → paths ≡ (line_with facilities asked).files → said ≡ line_with facilities asked
same_line asked said facilities paths is are = is ∙ ap (λ fs. record asked { files = fs }) are

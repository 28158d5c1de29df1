-- The answer to a command line as a value, and how it is carried out.
use Rattle.std.specs.Prelude.{◌≡◌, ℕ, Bool, true, false, List, Option, None, Some, Result, Ok, Err, take}
use Rattle.std.specs.Io.KnownBytes.{Appends}
use Rattle.program_io.specs.Writing.{AppendsPrefix}
use Rattle.rc_links.specs.Links.{plan_text}
use Rattle.rc_links.specs.PlannedText.{PlannedText}
use Rattle.rclinks_command.specs.Command.{Line}
use Rattle.rclinks_command.specs.Folders.{Becomes, KnownFolders, KnownScripts, changed_by}
use Rattle.rclinks_command.specs.Refusals.{refusal_status}
use Rattle.rclinks_command.specs.Writing.{InFolders, Previews, NeededChanges}
use Rattle.rclinks_command.specs.declared.answer.Work.{Work}
use Rattle.rclinks_command.specs.declared.answer.Work.TheVariants.{Change, Print}
use Rattle.rclinks_command.specs.declared.report.Refusal.{Refusal}

-- the work that a command line requires for a plan: to print its links, or to print or make the changes that the
-- folders of a directory need
abbrev pub IsWork : Option (List ℕ) → Line → KnownScripts → KnownFolders → Work → List PlannedText → Type 0
IsWork None line scripts before (Print text) plan = text.items ≡ plan_text plan
IsWork None line scripts before (Change to changes) plan = ⊥
IsWork (Some dir) line scripts before (Print text) plan = (line.dry ≡ true)
    × InFolders line.keeps before dir plan (λ plan. Previews before scripts line.prunes dir plan text.items)
IsWork (Some dir) line scripts before (Change to changes) plan = (line.dry ≡ false) × (to.now ≡ dir)
    × InFolders line.keeps before dir plan (λ plan. NeededChanges before scripts line.prunes dir plan changes.items)

-- the text was printed, or the changes were made
abbrev pub Did : Result Work Refusal → KnownFolders → KnownFolders → Option (List ℕ) → Option (List ℕ) → Type 0
Did (Ok (Print text)) before after old new = Appends old new text.items
Did (Ok (Change to changes)) before after old new = Becomes before after (changed_by to.now changes.items)
Did (Err why) before after old new = ⊥

-- part of the work was done: a prefix of the text was printed, or the first changes were made
abbrev pub DidPart : Result Work Refusal → KnownFolders → KnownFolders → Option (List ℕ) → Option (List ℕ) → Type 0
DidPart (Ok (Print text)) before after old new = AppendsPrefix old new text.items
DidPart (Ok (Change to changes)) before after old new =
    (count : ℕ) × Becomes before after (changed_by to.now (take count changes.items))
DidPart (Err why) before after old new = ⊥

-- nothing is done, because something is rejected
abbrev pub IsRefusal : Result Work Refusal → Type 0
IsRefusal (Ok work) = ⊥
IsRefusal (Err why) = refusal_status why ≡ 1

-- the work changes folders
abbrev pub makes : Result Work Refusal → Bool
makes (Ok (Print text)) = false
makes (Ok (Change to changes)) = true
makes (Err why) = false

-- the work prints a text
abbrev pub prints : Result Work Refusal → Bool
prints (Ok (Print text)) = true
prints (Ok (Change to changes)) = false
prints (Err why) = false

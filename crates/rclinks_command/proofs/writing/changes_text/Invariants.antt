use Rattle.rclinks_command.proofs.Words.{◌≡◌, ◌++◌, drop, changes_text}
use Rattle.rclinks_command.proofs.writing.changes_text.Given as goal

abbrev pub invariant-loop-change : goal.invariant-loop-change
invariant-loop-change l = l.text.items ++ changes_text (drop l.change-index l.changes) ≡ changes_text l.changes

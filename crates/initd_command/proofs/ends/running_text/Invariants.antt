use Rattle.initd_command.proofs.Words.{◌≡◌, ◌++◌, codes, listed_after}
use Rattle.initd_command.proofs.ends.running_text.Given as goal

-- the text so far, followed by the children that are left, is the text of all children
abbrev pub invariant-loop-id : goal.invariant-loop-id
invariant-loop-id l =
    l.text.items ++ listed_after l.front l.id-iterator ≡ listed_after (codes "initd: still running: ") l.running.entries

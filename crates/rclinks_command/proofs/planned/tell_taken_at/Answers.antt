use Rattle.rclinks_command.proofs.Words.{is_taken, targets_of}
use Rattle.rclinks_command.proofs.WritingLemmas.{any_of_those}
use Rattle.rclinks_command.proofs.planned.tell_taken_at.Goals as goal

pub returns : goal.returns
returns c = rw (c.is_empty.ensures, c.as_slice.ensures.value)
    (any_of_those (is_taken (targets_of c.args.targets.now) c.args.folder.now.planned) (λ e. e.now)
    c.in_ok-found.found.items c.args.folder.now.held c.in_ok-found.ensures)

use Rattle.rclinks_command.proofs.Words.{◌≡◌, ◌++◌, map, drop, targets_of, EntryText, gone_at}
use Rattle.rclinks_command.proofs.planned.add_gone_at.Given as goal

abbrev pub invariant-loop-entry : goal.invariant-loop-entry
invariant-loop-entry l =
    targets_of l.targets.items
    ++ map (λ (e : EntryText). e.leads) (map (λ e. e.now) (drop l.entry-index l.entry-items))
    ≡ targets_of l.fn.targets.items ++ gone_at l.scripts l.folder

use Rattle.inittab_text.proofs.Words.{◌∙◌, ◌+◌, ◌++◌, ◌∷◌, [], ap, sym, Some, drop}
use Rattle.std.proofs.lemmas.List.{append_assoc}
use Rattle.inittab_text.proofs.Entries.{copied, copied_known}
use Rattle.inittab_text.proofs.tables.Table.copy.Goals as goal

pub push-requires-clause-new : goal.push-requires-clause-new
push-requires-clause-new g c =
    (copied_known c.args.self.now c.loop-position.copy c.loop-position.position c.in_ok-entry.entry
    c.len-position-end.ensures.table c.loop-position.invariant
    (c.entry.ensures ∙ ap Some (sym c.in_ok-entry.ensures.cases))).1

pub push-requires-clause-written : goal.push-requires-clause-written
push-requires-clause-written g c =
    (copied_known c.args.self.now c.loop-position.copy c.loop-position.position c.in_ok-entry.entry
    c.len-position-end.ensures.table c.loop-position.invariant
    (c.entry.ensures ∙ ap Some (sym c.in_ok-entry.ensures.cases))).0

pub loop-position-preserved : goal.loop-position-preserved
loop-position-preserved g c =
    let rest = drop (c.loop-position.position + 1) c.args.self.now in
    ap (λ es. es ++ rest) c.in_ok-push.ensures.ok ∙ append_assoc c.loop-position.copy (c.in_ok-entry.entry ∷ []) rest
    ∙ copied c.args.self.now c.loop-position.copy c.loop-position.position c.in_ok-entry.entry c.loop-position.invariant
    (c.entry.ensures ∙ ap Some (sym c.in_ok-entry.ensures.cases))

use Rattle.inittab_text.proofs.Words.{◌∙◌, ◌+◌, ap, sym, drop, option_or, default_level_of}
use Rattle.inittab_text.proofs.Entries.{default_level_of-drop}
use Rattle.inittab_text.proofs.tables.Table.default_level.Goals as goal

pub returns-in-Some : goal.returns-in-Some
returns-in-Some g c =
    let rest = default_level_of (drop (c.loop-position.position + 1) c.args.self.now) in
    ap (λ o. option_or o rest) c.in-Some.ensures
    ∙ sym (default_level_of-drop c.args.self.now c.loop-position.position c.entry.result.now c.entry.ensures)
    ∙ c.loop-position.invariant

pub loop-position-preserved : goal.loop-position-preserved
loop-position-preserved g c =
    let rest = default_level_of (drop (c.loop-position.position + 1) c.args.self.now) in
    ap (λ o. option_or o rest) (sym c.in_default.is ∙ c.default_of.ensures)
    ∙ sym (default_level_of-drop c.args.self.now c.loop-position.position c.entry.result.now c.entry.ensures)
    ∙ c.loop-position.invariant

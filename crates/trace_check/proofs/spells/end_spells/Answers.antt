use Rattle.trace_check.proofs.Words.{◌∙◌, ap, not, rules, filter_same_pairs, at, child_may_live}
use Rattle.trace_check.proofs.Lookups.{filtered_at, unless}
use Rattle.trace_check.proofs.spells.end_spells.Goals as goal

pub returns : goal.returns
returns g c id =
    ap (at id) (filter_same_pairs _ (λ p. not (child_may_live c.args.table.now c.args.stage
    (λ i. at i c.args.children.now.entries) p.0)) _ (λ k v b w f t. search rules) _ _ c.retain.ensures.filtered)
    ∙ filtered_at (λ i. not (child_may_live c.args.table.now c.args.stage (λ j. at j c.args.children.now.entries) i)) id
    c.args.termed.now.entries
    ∙ unless (child_may_live c.args.table.now c.args.stage (λ i. at i c.args.children.now.entries) id)
    (at id c.args.termed.now.entries)

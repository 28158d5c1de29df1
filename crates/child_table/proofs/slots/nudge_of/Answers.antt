use Rattle.child_table.proofs.Words.{refl, sym, ◌∙◌, ap, option_copied_mut, after_nudge, values_of}
use Rattle.child_table.proofs.Words.{map}
use Rattle.std.proofs.lemmas.List.{drop_all}
use Rattle.child_table.specs.Indexing.{begun_among}
use Rattle.child_table.proofs.Found.{written, absent_in, none_found, unchanged}
use Rattle.child_table.proofs.Rounds.{begun-none, begun_next}
use Rattle.child_table.proofs.slots.nudge_of.Goals as goal
use Rattle.child_table.proofs.slots.nudge_of.Goals.{in-Some, in_default}

pub loop-item-preserved : goal.loop-item-preserved
loop-item-preserved g c =
    let slots = values_of c.loop-item.records.entries in
    elim c.match-get_mut.branch [
      | in-Some w ↦
          let left = written c.item-item.result.id after_nudge _ _ _ _ slots (λ s. refl) c.loop-item.invariant.own
          c.get_mut.ensures.unique refl w.in-Some.ensures.value w.note_nudge.ensures
          (c.get_mut.follows.holds w.note_nudge.new.self) in record {
            own = rw w.records-is left.own;
            values = rw w.records-is (begun_next c.args.items.now c.loop-item.item-index c.item-item.result slots _ _
                c.loop-item-test.true c.item-item.is left.values c.loop-item.invariant.values);
          }
      | in_default w ↦
          let none = absent_in c.item-item.result.id _ c.loop-item.records.entries slots c.loop-item.invariant.own refl
          c.get_mut.ensures.value (ap option_copied_mut w.in_default.is) in
          let same = w.records-is ∙ c.get_mut.follows.holds-at-none in record {
            own = rw same c.loop-item.invariant.own;
            values = rw same (begun_next c.args.items.now c.loop-item.item-index c.item-item.result slots slots _
                c.loop-item-test.true c.item-item.is
                (sym (unchanged c.item-item.result.id after_nudge slots
                (none_found c.item-item.result.id slots none)))
                c.loop-item.invariant.values);
          }
    ]

pub returns-clause-values : goal.returns-clause-values
returns-clause-values g c =
    let slots = values_of c.loop-item.records.entries in
    sym (begun-none slots)
    ∙ ap (λ cs. map (begun_among cs) slots)
    (sym (drop_all c.loop-item.item-index c.args.items.now c.loop-item-test.false))
    ∙ c.loop-item.invariant.values

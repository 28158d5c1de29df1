use Rattle.child_table.proofs.Words.{ap, refl, sym, ◌∙◌, option_copied_mut, CLOCK_LIMIT, has_record_of, after_hold}
use Rattle.child_table.proofs.Words.{counts_of, child_of, termed_of}
use Rattle.init_words.proofs.Tests.{both_ways}
use Rattle.std.specs.Option.{is_some}
use Rattle.child_table.proofs.Counted.{same_changed}
use Rattle.child_table.proofs.Found.{absent_in, distinct_changed, written}
use Rattle.child_table.proofs.Indexes.{same_index_at}
use Rattle.child_table.proofs.slots.Slots.hold.Goals as goal

pub unreachable-requires : goal.unreachable-requires
unreachable-requires g c =
    let none = absent_in c.args.id _ c.self.inside.records.entries c.args.self.now c.self.invariant.0 c.self.view_is
    c.get_mut.ensures.value (ap option_copied_mut c.in_default.is) in
    both_ways (has_record_of c.args.id c.args.self.now) c.requires.known (ap is_some none)

pub invariant_of-self : goal.invariant_of-self
invariant_of-self g c =
    let left = written c.args.id (after_hold c.args.now) _ _ _ _ _
    (λ s. refl) c.self.invariant.0 c.get_mut.ensures.unique c.self.view_is c.in-Some.ensures.value c.note_hold.ensures
    (c.get_mut.follows.holds c.note_hold.new.self) in (
      left.own,
      left.timely CLOCK_LIMIT (λ s kept. kept) (rw c.self.view_is at c.self.invariant.1),
      c.self.invariant.2 ∙ ap counts_of c.self.view_is
          ∙ same_changed c.args.id (after_hold c.args.now) (λ s. refl) (λ s. refl)
          (λ s. refl) c.args.self.now ∙ sym (ap counts_of left.values),
      same_index_at child_of c.args.id (after_hold c.args.now)
          (λ s. refl) c.self.inside.children c.self.view_is left.values c.self.invariant.3,
      same_index_at termed_of c.args.id (after_hold c.args.now)
          (λ s. refl) c.self.inside.termed c.self.view_is left.values c.self.invariant.4,
      rw left.values (distinct_changed c.args.id (after_hold c.args.now) (λ s. refl) c.args.self.now
          (rw c.self.view_is at c.self.invariant.5)),
    )

pub returns : goal.returns
returns g c =
    (written c.args.id (after_hold c.args.now) _ _ _ _ _ (λ s. refl) c.self.invariant.0 c.get_mut.ensures.unique
    c.self.view_is c.in-Some.ensures.value c.note_hold.ensures (c.get_mut.follows.holds c.note_hold.new.self)).values

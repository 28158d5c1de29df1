use Rattle.child_table.proofs.Words.{ap, sym, ◌∙◌, option_copied_mut, CLOCK_LIMIT, has_record_of, after_answer}
use Rattle.child_table.proofs.Words.{counts_of, child_of, termed_of}
use Rattle.init_words.proofs.Tests.{both_ways}
use Rattle.std.specs.Option.{is_some}
use Rattle.child_table.proofs.Changed.{child-after_answer, id-after_answer, termed-after_answer}
use Rattle.child_table.proofs.Counted.{few_kept, found_within, recount}
use Rattle.child_table.proofs.Found.{absent_in, distinct_changed, found_in, written}
use Rattle.child_table.proofs.Timely.{timely_answer}
use Rattle.child_table.proofs.Forgotten.{item_before}
use Rattle.child_table.proofs.Keys.{own_child, own_termed}
use Rattle.child_table.proofs.Indexes.{note_room, noted_index}
use Rattle.child_table.proofs.slots.Slots.note_answer.Goals as goal

pub unreachable-requires : goal.unreachable-requires
unreachable-requires g c =
    let none = absent_in c.args.id _ c.self.inside.records.entries c.args.self.now c.self.invariant.0 c.self.view_is
    c.get_mut.ensures.value (ap option_copied_mut c.in_default.is) in
    both_ways (has_record_of c.args.id c.args.self.now) c.requires.known (ap is_some none)

pub subtract-requires : goal.subtract-requires
subtract-requires g c = rw (c.of.ensures, c.self.invariant.2, c.self.view_is)
    (found_within c.args.id c.in-Some.slot.now c.args.self.now (found_in c.args.id c.in-Some.slot.now
    c.self.inside.records.entries c.args.self.now c.self.invariant.0 c.self.view_is c.in-Some.ensures.value))

pub add-requires : goal.add-requires
add-requires g c = (recount c.self.inside.records c.args.id
    (after_answer c.args.answer c.args.now) c.in-Some.slot.now c.note_answer.new.self c.args.self.now
    c.self.inside.counts c.of.result c.subtract.new.self c.of-2.result c.self.invariant.0 c.get_mut.ensures.unique
    (few_kept c.self.inside.records.entries _ c.self.invariant.3.room c.self.inside.children.small)
    c.self.view_is c.in-Some.ensures.value c.self.invariant.2 c.of.ensures
    c.subtract.ensures c.note_answer.ensures c.of-2.ensures).small

pub note-requires-clause-room : goal.note-requires-clause-room
note-requires-clause-room g c = note_room child_of own_child c.args.id (after_answer c.args.answer c.args.now)
    c.in-Some.slot.now c.note_answer.new.self c.self.inside.children c.child_of-child.result c.self.view_is
    (rw c.self.view_is at c.self.invariant.5)
    (found_in c.args.id c.in-Some.slot.now c.self.inside.records.entries c.args.self.now c.self.invariant.0
    c.self.view_is c.in-Some.ensures.value) c.note_answer.ensures c.child_of-child.ensures c.self.invariant.3

pub note-requires-2-clause-room : goal.note-requires-2-clause-room
note-requires-2-clause-room g c = note_room termed_of own_termed c.args.id (after_answer c.args.answer c.args.now)
    c.in-Some.slot.now c.note_answer.new.self c.self.inside.termed c.termed_of-termed.result c.self.view_is
    (rw c.self.view_is at c.self.invariant.5)
    (found_in c.args.id c.in-Some.slot.now c.self.inside.records.entries c.args.self.now c.self.invariant.0
    c.self.view_is c.in-Some.ensures.value) c.note_answer.ensures c.termed_of-termed.ensures c.self.invariant.4

pub note-requires-clause-one : goal.note-requires-clause-one
note-requires-clause-one g c = item_before child_of own_child c.args.id c.in-Some.slot.now c.self.inside.children
    c.child_of-old_child.result c.self.view_is
    (rw c.self.view_is at c.self.invariant.5)
    (found_in c.args.id c.in-Some.slot.now c.self.inside.records.entries c.args.self.now c.self.invariant.0
    c.self.view_is c.in-Some.ensures.value) c.child_of-old_child.ensures c.self.invariant.3

pub note-requires-2-clause-one : goal.note-requires-2-clause-one
note-requires-2-clause-one g c = item_before termed_of own_termed c.args.id c.in-Some.slot.now c.self.inside.termed
    c.termed_of-old_termed.result c.self.view_is
    (rw c.self.view_is at c.self.invariant.5)
    (found_in c.args.id c.in-Some.slot.now c.self.inside.records.entries c.args.self.now c.self.invariant.0
    c.self.view_is c.in-Some.ensures.value) c.termed_of-old_termed.ensures c.self.invariant.4

pub invariant_of-self : goal.invariant_of-self
invariant_of-self g c =
    let change = after_answer c.args.answer c.args.now in
    let distinct = rw c.self.view_is at c.self.invariant.5 in
    let found = found_in c.args.id c.in-Some.slot.now c.self.inside.records.entries c.args.self.now c.self.invariant.0
    c.self.view_is c.in-Some.ensures.value in
    let left = written c.args.id (after_answer c.args.answer c.args.now) _ _ _ _ _
    (λ s. id-after_answer c.args.answer c.args.now s) c.self.invariant.0 c.get_mut.ensures.unique c.self.view_is
    c.in-Some.ensures.value c.note_answer.ensures (c.get_mut.follows.holds c.note_answer.new.self) in (
      left.own,
      left.timely CLOCK_LIMIT (λ s kept. timely_answer c.args.answer c.args.now CLOCK_LIMIT c.requires.limit s kept)
          (rw c.self.view_is at c.self.invariant.1),
      c.add.ensures ∙ (recount c.self.inside.records c.args.id
          (after_answer c.args.answer c.args.now) c.in-Some.slot.now c.note_answer.new.self c.args.self.now
          c.self.inside.counts c.of.result c.subtract.new.self c.of-2.result c.self.invariant.0 c.get_mut.ensures.unique
          (few_kept c.self.inside.records.entries _ c.self.invariant.3.room c.self.inside.children.small)
          c.self.view_is c.in-Some.ensures.value c.self.invariant.2
          c.of.ensures c.subtract.ensures c.note_answer.ensures c.of-2.ensures).exact ∙ sym (ap counts_of left.values),
      noted_index child_of own_child c.args.id change c.in-Some.slot.now c.note_answer.new.self c.self.inside.children
          c.child_of-child.result c.self.view_is distinct found c.note_answer.ensures c.child_of-child.ensures
          c.changes_child.result c.note.new.items left.values
          (λ still s. child-after_answer c.args.answer c.args.now s (sym c.changes_child.ensures ∙ still))
          c.note.ensures.counts c.note.ensures.sorted c.note.ensures.room c.self.invariant.3,
      noted_index termed_of own_termed c.args.id change c.in-Some.slot.now c.note_answer.new.self c.self.inside.termed
          c.termed_of-termed.result c.self.view_is distinct found c.note_answer.ensures c.termed_of-termed.ensures
          c.changes_stop.result c.note-2.new.items left.values
          (λ still s. termed-after_answer c.args.answer c.args.now s (sym c.changes_stop.ensures ∙ still))
          c.note-2.ensures.counts c.note-2.ensures.sorted c.note-2.ensures.room c.self.invariant.4,
      rw left.values (distinct_changed c.args.id change (λ s. id-after_answer c.args.answer c.args.now s)
          c.args.self.now distinct),
    )

pub returns : goal.returns
returns g c = (written c.args.id (after_answer c.args.answer c.args.now) _ _ _ _ _
    (λ s. id-after_answer c.args.answer c.args.now s) c.self.invariant.0 c.get_mut.ensures.unique c.self.view_is
    c.in-Some.ensures.value c.note_answer.ensures (c.get_mut.follows.holds c.note_answer.new.self)).values

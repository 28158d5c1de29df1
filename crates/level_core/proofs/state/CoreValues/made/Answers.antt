use Rattle.level_core.proofs.Words.{◌≡◌, refl, Bool, true, false, ◌&&◌, cond, Some, None, List, Err, sym, ◌∙◌, ap}
use Rattle.level_core.proofs.Words.{subst, rules, SlotState, are_distinct, Entry, PlainSlot, records_along}
use Rattle.level_core.proofs.Words.{are_whole, IsFit, is_kept, CoreState}
use Rattle.core_model.specs.declared.parts.CoreFields.{CoreFields}
use Rattle.core_model.specs.Parts.{state_of}
use Rattle.core_model.proofs.Kept.{Rules, rules_of}
use Rattle.core_model.proofs.Rebuilt.{made_kept, made_state, unfit_whole, unfit_kept}
use Rattle.level_core.specs.declared.rebuilding.Rebuild.TheVariants as rebuild
use Rattle.level_core.proofs.state.CoreValues.made.Goals as goal

abbrev core_with : CoreFields → List Entry → List SlotState → CoreState
core_with fields table slots = record { table = table; slots = slots; fields = fields }

-- the rebuilt records pass the tests, so the core obeys the rules
passed : (fields : CoreFields) (table : List Entry) (records : List PlainSlot) (slots : List SlotState)
    → are_whole table records ≡ true → slots ≡ records_along table records → true ≡ is_kept fields table slots
    → IsFit (core_with fields table slots)
passed fields table records slots whole made kept = subst (λ s. IsFit (core_with fields table s)) (sym made)
    (made_kept (record { fields = fields; table = table; records = records }) whole
    (ap (is_kept fields table) (sym made) ∙ sym kept))

rules_passed : (fields : CoreFields) (table : List Entry) (records : List PlainSlot) (slots : List SlotState)
    → are_whole table records ≡ true → slots ≡ records_along table records → true ≡ is_kept fields table slots
    → Rules (core_with fields table slots)
rules_passed fields table records slots whole made kept =
    rules_of (core_with fields table slots) (passed fields table records slots whole made kept)

pub returns-in_err-slots-clause-unfit : goal.returns-in_err-slots-clause-unfit
returns-in_err-slots-clause-unfit g c unfit =
    let is : c.from_residual.result ≡ Err c.in_err-slots.field-0.0 = search (rules, c.from_residual.ensures) in
    let why : c.in_err-slots.field-0.0 ≡ rebuild.Unfit = cc in
    unfit_whole (record { fields = c.args.fields; table = c.args.table; records = c.args.records.now })
    (c.in_err-slots.ensures.unfit (ap Err why))

-- the cases in which no core is rebuilt from the records, and in which one is
no_part : (distinct kept : Bool) → kept ≡ false → (distinct && kept) ≡ false
no_part true kept h = h
no_part false kept h = refl

doubled : (distinct : Bool) (slots : List SlotState) → None ≡ cond distinct (Some slots) None → distinct ≡ false
doubled true slots is = absurd (cc)
doubled false slots is = refl

single : (distinct : Bool) (slots made : List SlotState) → Some made ≡ cond distinct (Some slots) None
    → (distinct ≡ true) × (made ≡ slots)
single true slots made is = (refl, cc)
single false slots made is = absurd (cc)

kept_of : (fields : CoreFields) (table : List Entry) (slots : List SlotState) → is_kept fields table slots
    ≡ (are_distinct slots && true) → are_distinct slots ≡ true → true ≡ is_kept fields table slots
kept_of fields table slots is distinct = sym (is ∙ rw distinct refl)

pub returns-then-not-is_kept-clause-unfit : goal.returns-then-not-is_kept-clause-unfit
returns-then-not-is_kept-clause-unfit g c unfit =
    unfit_kept (record { fields = c.args.fields; table = c.args.table; records = c.args.records.now })
    (ap (is_kept c.args.fields c.args.table) (sym (c.deref.ensures.value ∙ c.in_ok-slots.ensures.made))
    ∙ c.is_kept.ensures.kept ∙ no_part (are_distinct c.deref.result.now) c.is_kept.result c.if-not-is_kept.true)

pub rebuilt-requires : goal.rebuilt-requires
rebuilt-requires g c = rw c.deref.ensures.value at (c.if-not-is_kept.ensures.timely refl)

pub returns-in_default-clause-unfit : goal.returns-in_default-clause-unfit
returns-in_default-clause-unfit g c unfit =
    let none = doubled (are_distinct c.in_ok-slots.slots.items) c.in_ok-slots.slots.items
    (sym c.in_default.is ∙ c.in_ok-slots-2.ensures) in
    unfit_kept (record { fields = c.args.fields; table = c.args.table; records = c.args.records.now })
    (ap (is_kept c.args.fields c.args.table) (sym c.in_ok-slots.ensures.made)
    ∙ (rw c.deref.ensures.value at c.if-not-is_kept.ensures.kept) ∙ rw none refl)

pub of-requires-clause-clock : goal.of-requires-clause-clock
of-requires-clause-clock g c =
    let one = single (are_distinct c.in_ok-slots.slots.items) c.in_ok-slots.slots.items c.in-Some.slots
    (sym c.in-Some.is ∙ c.in_ok-slots-2.ensures) in
    (rules_passed c.args.fields c.args.table c.args.records.now c.in_ok-slots.slots.items c.in_ok-slots.ensures.whole
    c.in_ok-slots.ensures.made (kept_of c.args.fields c.args.table c.in_ok-slots.slots.items
    (rw c.deref.ensures.value at c.if-not-is_kept.ensures.kept) one.0)).clock

pub of-requires-clause-timely : goal.of-requires-clause-timely
of-requires-clause-timely g c =
    let one = single (are_distinct c.in_ok-slots.slots.items) c.in_ok-slots.slots.items c.in-Some.slots
    (sym c.in-Some.is ∙ c.in_ok-slots-2.ensures) in
    rw one.1 (rules_passed c.args.fields c.args.table c.args.records.now c.in_ok-slots.slots.items
    c.in_ok-slots.ensures.whole c.in_ok-slots.ensures.made (kept_of c.args.fields c.args.table
    c.in_ok-slots.slots.items (rw c.deref.ensures.value at c.if-not-is_kept.ensures.kept) one.0)).timely

pub of-requires-clause-order : goal.of-requires-clause-order
of-requires-clause-order g c =
    let one = single (are_distinct c.in_ok-slots.slots.items) c.in_ok-slots.slots.items c.in-Some.slots
    (sym c.in-Some.is ∙ c.in_ok-slots-2.ensures) in
    rw one.1 (passed c.args.fields c.args.table c.args.records.now c.in_ok-slots.slots.items
    c.in_ok-slots.ensures.whole c.in_ok-slots.ensures.made (kept_of c.args.fields c.args.table
    c.in_ok-slots.slots.items (rw c.deref.ensures.value at c.if-not-is_kept.ensures.kept) one.0)).in_order

pub returns-clause-made : goal.returns-clause-made
returns-clause-made g c =
    let one = single (are_distinct c.in_ok-slots.slots.items) c.in_ok-slots.slots.items c.in-Some.slots
    (sym c.in-Some.is ∙ c.in_ok-slots-2.ensures) in
    let is : c.of.result ≡ core_with c.args.fields c.args.table c.in_ok-slots.slots.items =
    c.of.ensures ∙ ap (core_with c.args.fields c.args.table) one.1 in (
      ap state_of (is ∙ ap (core_with c.args.fields c.args.table) c.in_ok-slots.ensures.made)
          ∙ made_state (record { fields = c.args.fields; table = c.args.table; records = c.args.records.now })
          c.in_ok-slots.ensures.whole,
      subst IsFit (sym is) (passed c.args.fields c.args.table c.args.records.now c.in_ok-slots.slots.items
          c.in_ok-slots.ensures.whole c.in_ok-slots.ensures.made (kept_of c.args.fields c.args.table
          c.in_ok-slots.slots.items (rw c.deref.ensures.value at c.if-not-is_kept.ensures.kept) one.0)),
    )

-- A state that is handed on can be written as text, and obeys the rules for being taken over.
use Rattle.reexec_state.proofs.Words.{◌≡◌, refl, sym, ap, ◌∙◌, subst, ℕ, ◌+◌, ◌^◌, ◌<◌, true, false, List, map, arith}
use Rattle.reexec_state.proofs.Words.{list_all, CoreFields, record_of, state_of, CoreState, after_handed_on}
use Rattle.reexec_state.proofs.Words.{has_ranged_words, has_short_seconds, IsTextIn}
use Rattle.inittab_text.specs.Written.{is_table}
use Rattle.core_model.specs.Rules.{IsFit}
use Rattle.core_model.proofs.RuledHeard.{handed_on_keeps}
use Rattle.core_text.specs.declared.versions.Version.TheVariants.{V2}
use Rattle.core_text.specs.Lines.{state_text}
use Rattle.core_text.proofs.Ranged.{state_ranged}

pub handed_says : (old new : CoreState) (next : CoreFields) (text : List ℕ) → new ≡ after_handed_on old
    → next ≡ record old.fields { generation = old.fields.generation + 1; reexec = false }
    → old.fields.generation + 1 < 2 ^ 64 → is_table old.table ≡ true → list_all has_ranged_words old.slots ≡ true
    → text ≡ state_text (record { fields = next; table = old.table; records = map record_of old.slots }) → IsFit old
    → has_short_seconds old ≡ true → IsTextIn V2 text (state_of new) × IsFit new
handed_says old new next text is fields small table ids said keeps short =
    subst (λ c. IsTextIn V2 text (state_of c) × IsFit c) (sym is)
    (let kept : IsFit (after_handed_on old) = handed_on_keeps old keeps in
    let written : text ≡ state_text (state_of (after_handed_on old)) =
    said ∙ ap (λ h. state_text (record { fields = h; table = old.table; records = map record_of old.slots })) fields in
    ((state_ranged (after_handed_on old) kept (omega arith) small refl short table ids, sym written), kept))

pub handed_text : (old new : CoreState) (next : CoreFields) (text : List ℕ) → new ≡ after_handed_on old
    → next ≡ record old.fields { generation = old.fields.generation + 1; reexec = false } → text ≡ state_text
    (record { fields = next; table = old.table; records = map record_of old.slots }) → text ≡ state_text (state_of new)
handed_text old new next text is fields said =
    said ∙ ap (λ h. state_text (record { fields = h; table = old.table; records = map record_of old.slots })) fields
    ∙ ap (λ c. state_text (state_of c)) (sym is)

-- Undisturbed runs, one happening at a time.
use Rattle.trace_laws.proofs.Words.{◌≡◌, true, ◌&&◌, List, [], ◌∷◌, false≢true, and_parts, Entry, is_distinct, NewTable}
use Rattle.trace_laws.proofs.Words.{Goal, Event, table_of, due, first, may_come, keeps_order, is_orderly, is_mild}
use Rattle.trace_laws.proofs.Words.{is_undisturbed}
use Rattle.trace_laws.proofs.Runs.{orderly_sound}
use Rattle.trace_laws.proofs.Keeps.{Holds, sound_holds}

-- a run that nothing disturbs
pub record Plain (goal : Goal) (past : List Event) : Type 0 where
  pub runs : is_orderly goal past ≡ true
  pub mild : is_undisturbed past ≡ true

-- a happening that continues such a run
pub record Comes (goal : Goal) (happening : Event) (past : List Event) : Type 0 where
  pub mild : is_mild happening past ≡ true
  pub next : keeps_order (first (due goal past)) happening ≡ true
  pub may : may_come goal happening past ≡ true
  pub before : Plain goal past

pub plain_ind : (goal : Goal) (P : List Event → Type 0) → ((table : List Entry) → is_distinct table ≡ true
    → P (NewTable table ∷ [])) → ((happening : Event) (past : List Event) → Comes goal happening past → P past
    → P (happening ∷ past)) → (past : List Event) → is_orderly goal past ≡ true → is_undisturbed past ≡ true → P past
plain_ind goal P begins goes [] runs mild = absurd (false≢true runs)
plain_ind goal P begins goes (NewTable table ∷ []) runs mild = begins table runs
plain_ind goal P begins goes (happening ∷ past) runs mild =
    let two = and_parts (is_mild happening past) (is_undisturbed past) mild in
    let all = and_parts (keeps_order (first (due goal past)) happening && may_come goal happening past)
    (is_orderly goal past) runs in
    let one = and_parts (keeps_order (first (due goal past)) happening) (may_come goal happening past) all.0 in
    goes happening past
    (record { mild = two.0; next = one.0; may = one.1; before = record { runs = all.1; mild = two.1 } })
    (plain_ind goal P begins goes past all.1 two.1)

pub plain_holds : (goal : Goal) (past : List Event) → Plain goal past → Holds past
plain_holds goal past plain = sound_holds goal past (orderly_sound goal past plain.runs)

pub plain_distinct : (goal : Goal) (past : List Event) → Plain goal past → is_distinct (table_of past) ≡ true
plain_distinct goal past plain = (plain_holds goal past plain).distinct

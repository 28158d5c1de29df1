-- The child that an end belongs to: the core's record of the id has the number of the id's last birth.
use Rattle.supervisor.proofs.EdgeWords.{◌≡◌, refl, sym, ◌∙◌, ap, ℕ, ◌==◌, Bool, true, false, ◌&&◌, List, ◌∷◌, Option}
use Rattle.supervisor.proofs.EdgeWords.{Some}
use Rattle.supervisor.proofs.EdgeWords.{None, is_some, filter, option_map, option_map_or, list_any, false≢true}
use Rattle.supervisor.proofs.EdgeWords.{and_parts}
use Rattle.supervisor.proofs.EdgeWords.{eqb-true, Status, Goal, Event, Child, is_child_of, is_child, is_dead, has_child}
use Rattle.supervisor.proofs.EdgeWords.{undone_of, unreaped_children, known_children, is_order, record_ids, is_sound}
use Rattle.supervisor.proofs.EdgeWords.{may_come, child_in_records, CoreState, Fits, child_known, living, record_of}
use Rattle.supervisor.proofs.EdgeWords.{found_record, child_some, fit_records, any_found, last_birth, acted, is_allowed}
use Rattle.init_words.specs.declared.orders.Answer.TheVariants as answer
use Rattle.init_words.specs.declared.orders.OrderKind.TheVariants.{Look}
use Rattle.trace_events.specs.declared.happenings.Happening.TheVariants as past
use Rattle.trace_laws.proofs.Keeps.{sound_holds}
use Rattle.trace_laws.proofs.Known.{known_single}
use Rattle.trace_laws.proofs.Orders.{same_of, told_known}
use Rattle.trace_laws.proofs.Tests.{is_order-is}
use Rattle.child_table.specs.State.{SlotState, child_number}
use Rattle.child_table.specs.Lists as lists
use Rattle.supervisor.proofs.Leading.{allowed_first}

-- the core's record of the id, and the number of its child
pub record HasNumber (c : CoreState) (id : List ℕ) (number : ℕ) : Type 0 where
  pub slot : SlotState
  pub found : lists.record_by_id id c.slots ≡ Some slot
  pub number_is : child_number slot ≡ Some number

pub end_number : (goal : Goal) (so_far : List Event) (c : CoreState) (id : List ℕ) (status : Status)
    → is_sound goal so_far ≡ true → Fits c goal so_far → is_allowed goal (acted id (answer.Ended status) so_far) ≡ true
    → HasNumber c id (last_birth id so_far)
end_number goal so_far c id status sound fits allowed = by (child_known id so_far) refl known
  where
    n : ℕ
    n = last_birth id so_far

    numbered : Child → Bool
    numbered child = n == child.number

    may : may_come goal (past.Reaped id n status) (past.Death n ∷ so_far) ≡ true
    may = allowed_first goal (past.Reaped id n status) (past.Death n ∷ so_far) allowed

    parts : ((is_order Look (undone_of id so_far) && list_any (is_child id n) (unreaped_children so_far)) ≡ true)
        × (is_dead id n (past.Death n ∷ so_far) ≡ true)
    parts = and_parts (is_order Look (undone_of id so_far) && list_any (is_child id n) (unreaped_children so_far))
        (is_dead id n (past.Death n ∷ so_far)) may

    two : (is_order Look (undone_of id so_far) ≡ true) × (list_any (is_child id n) (unreaped_children so_far) ≡ true)
    two = and_parts (is_order Look (undone_of id so_far)) (list_any (is_child id n) (unreaped_children so_far)) parts.0

    same : filter (is_child_of id) (known_children so_far) ≡ filter (is_child_of id) (unreaped_children so_far)
    same = told_known id so_far
        ((sound_holds goal so_far sound).done id Look (is_order-is Look (undone_of id so_far) two.0))

    known : option_map_or numbered (child_known id so_far) false ≡ true
    known = sym (any_found (is_child_of id) numbered (known_children so_far) (known_single goal so_far sound id))
        ∙ same_of id numbered (known_children so_far) (unreaped_children so_far) same ∙ two.1

    by : (o : Option Child) → child_known id so_far ≡ o → option_map_or numbered o false ≡ true → HasNumber c id n
    by None is h = absurd (false≢true h)
    by (Some child) is h =
        let there : has_child id (known_children so_far) ≡ true =
        sym (child_some id so_far) ∙ ap (λ o. is_some (option_map living o)) is in
        record {
          slot = record_of fits.lasts so_far id;
          found = ap (lists.record_by_id id) (fit_records c goal so_far fits)
              ∙ found_record fits.lasts so_far id (record_ids so_far) (child_in_records goal so_far sound id there);
          number_is = ap (λ o. option_map (λ child. child.number) (option_map living o)) is
              ∙ ap Some (sym (eqb-true n child.number h));
        }

-- A run is sound, as every orderly trace is, and the first of the due steps is due.
use Rattle.trace_laws.proofs.Words.{◌≡◌, true, false, ◌&&◌, List, [], ◌∷◌, arith, list_any, false≢true, and_parts}
use Rattle.trace_laws.proofs.Words.{and_from, NewTable, Step, Idle, Goal, Event, due, first, same_step, is_due}
use Rattle.trace_laws.proofs.Words.{may_come, is_sound, is_lawful, is_next, is_run, keeps_order, is_orderly}
use Rattle.trace_laws.proofs.Words.{same_id-self, same_ask-self, same_level-self, same_power-self, same_stage-self}
use Rattle.trace_laws.proofs.Laws.{sound_lawful}

pub orderly_sound : (goal : Goal) (past : List Event) → is_orderly goal past ≡ true → is_sound goal past ≡ true
orderly_sound goal [] h = absurd (false≢true h)
orderly_sound goal (NewTable table ∷ []) h = h
orderly_sound goal (happening ∷ past) h =
    let all = and_parts (keeps_order (first (due goal past)) happening && may_come goal happening past)
    (is_orderly goal past) h in
    let two = and_parts (keeps_order (first (due goal past)) happening) (may_come goal happening past) all.0 in
    and_from (may_come goal happening past) (is_sound goal past) two.1 (orderly_sound goal past all.1)

next_keeps : (step : Step) (happening : Event) → is_next step happening ≡ true → keeps_order step happening ≡ true
next_keeps step happening h = grind arith

run_orderly : (goal : Goal) (past : List Event) → is_run goal past ≡ true → is_orderly goal past ≡ true
run_orderly goal [] h = absurd (false≢true h)
run_orderly goal (NewTable table ∷ []) h = h
run_orderly goal (happening ∷ past) h =
    let all =
    and_parts (is_next (first (due goal past)) happening && may_come goal happening past) (is_run goal past) h in
    let two = and_parts (is_next (first (due goal past)) happening) (may_come goal happening past) all.0 in
    and_from (keeps_order (first (due goal past)) happening && may_come goal happening past) (is_orderly goal past)
    (and_from (keeps_order (first (due goal past)) happening) (may_come goal happening past)
    (next_keeps (first (due goal past)) happening two.0) two.1) (run_orderly goal past all.1)

pub run_sound : (goal : Goal) (past : List Event) → is_run goal past ≡ true → is_sound goal past ≡ true
run_sound goal past h = orderly_sound goal past (run_orderly goal past h)

pub run_lawful : (goal : Goal) (past : List Event) → is_run goal past ≡ true → is_lawful past ≡ true
run_lawful goal past h = sound_lawful goal past (run_sound goal past h)

-- each step is the same as itself
pub same_step-self : (step : Step) → same_step step step ≡ true
same_step-self step = grind (arith, same_stage-self, same_power-self, same_id-self, same_ask-self, same_level-self)

-- the first of the due steps is due, if there is one
first_among : (steps : List Step) (step : Step) → first steps ≡ step → same_step Idle step ≡ false
    → list_any (same_step step) steps ≡ true
first_among steps step is busy = grind (arith, same_step-self)

pub first_due : (goal : Goal) (past : List Event) (step : Step) → first (due goal past) ≡ step
    → same_step Idle step ≡ false → is_due goal step past ≡ true
first_due goal past step is busy = first_among (due goal past) step is busy

-- When a level is announced settled, it is settled according to the unreaped children.
use Rattle.trace_laws.proofs.Words.{◌≡◌, refl, sym, ◌∙◌, ap, ℕ, Bool, true, not, ◌&&◌, List, ◌∷◌, ◌++◌, filter, Option}
use Rattle.trace_laws.proofs.Words.{Some, arith, list_any, list_all, and_parts, and_from, not-true, Entry, Level, Stage}
use Rattle.trace_laws.proofs.Words.{entry_of, Goal, Event, table_of, stage_of, Child, is_child_of, is_idle}
use Rattle.trace_laws.proofs.Words.{unreaped_children}
use Rattle.trace_laws.proofs.Words.{known_children, may_live, is_excluded, is_level, is_served, is_settled, may_come}
use Rattle.trace_laws.proofs.Words.{is_sound, same_id-self, Passing, passing, falsely, not_from, any_less, all_less}
use Rattle.trace_laws.proofs.Words.{all_fail}
use Rattle.trace_laws.specs.Belonging.{belongs}
use Rattle.init_words.specs.declared.stages.Stage.TheVariants as stage
use Rattle.trace_events.specs.declared.happenings.Happening.TheVariants.{Settle}
use Rattle.trace_events.specs.declared.steps.Step.TheVariants as step
use Rattle.trace_laws.proofs.Orders.{idle_none, told_known, same_of, same_has}
use Rattle.trace_laws.proofs.Dues.{MaySettle, due_facts}
use Rattle.trace_laws.proofs.Keeps.{sound_holds, free_told}
use Rattle.trace_laws.proofs.Births.{step_at}

-- at an idle point the known children of each id are its unreaped ones
pub idle_known : (goal : Goal) (past : List Event) → is_sound goal past ≡ true → is_idle past ≡ true → (id : List ℕ)
    → filter (is_child_of id) (known_children past) ≡ filter (is_child_of id) (unreaped_children past)
idle_known goal past sound idle id =
    told_known id past (free_told id past (sound_holds goal past sound).told (idle_none id past idle))

-- a child that passes a test in one list is in every other list with the same children of each id
pub same_any : (p : Child → Bool) (xs ys : List Child)
    → ((id : List ℕ) → filter (is_child_of id) xs ≡ filter (is_child_of id) ys)
    → list_any p xs ≡ true → list_any p ys ≡ true
same_any p xs ys same h =
    any_less own p (λ child both. (and_parts (is_child_of found.item.id child) (p child) both).1) ys
    (sym (same_of found.item.id p xs ys (same found.item.id)) ∙ found.within own
    (and_from (is_child_of found.item.id found.item) (p found.item) (same_id-self found.item.id) found.passes)) where
      found : Passing p xs
      found = passing p xs h

      own : Child → Bool
      own child = is_child_of found.item.id child && p child

same_served : (level : Level) (xs ys : List Child) (past : List Event) → ((id : List ℕ) → filter (is_child_of id) xs
    ≡ filter (is_child_of id) ys) → (e : Entry) → is_served level xs past e ≡ true → is_served level ys past e ≡ true
same_served level xs ys past same e h = grind (arith, same_has)

same_settled : (level : Level) (xs ys : List Child) (past : List Event) → ((id : List ℕ)
    → filter (is_child_of id) xs ≡ filter (is_child_of id) ys)
    → ((id : List ℕ) → filter (is_child_of id) ys ≡ filter (is_child_of id) xs)
    → is_settled level xs past ≡ true → is_settled level ys past ≡ true
same_settled level xs ys past same back h =
    let all = and_parts (is_level level (stage_of past) && not (list_any (is_excluded past) xs))
    (list_all (is_served level xs past) (table_of past)) h in
    let two = and_parts (is_level level (stage_of past)) (not (list_any (is_excluded past) xs)) all.0 in
    and_from (is_level level (stage_of past) && not (list_any (is_excluded past) ys)) (list_all (is_served level ys
    past) (table_of past)) (and_from (is_level level (stage_of past)) (not (list_any (is_excluded past) ys)) two.0
    (not_from (list_any (is_excluded past) ys) (falsely (list_any (is_excluded past) ys) (list_any (is_excluded past)
    xs) (same_any (is_excluded past) ys xs back) (not-true (list_any (is_excluded past) xs) two.1)))) (all_less
    (is_served level xs past) (is_served level ys past) (same_served level xs ys past same) (table_of past) all.1)

pub settle_settled : (goal : Goal) (later : List Event) (level : Level) (past : List Event)
    → is_sound goal (later ++ Settle level ∷ past) ≡ true → is_settled level (unreaped_children past) past ≡ true
settle_settled goal later level past h =
    same_settled level (known_children past) (unreaped_children past) past same (λ id. sym (same id)) may.settled where
      parts : (may_come goal (Settle level) past ≡ true) × (is_sound goal past ≡ true)
      parts = step_at goal later (Settle level) past refl h

      may : MaySettle level past
      may = due_facts goal past (step.Settle level) parts.0

      same : (id : List ℕ)
          → filter (is_child_of id) (known_children past) ≡ filter (is_child_of id) (unreaped_children past)
      same = idle_known goal past parts.1 may.idle

-- in a settled level each unreaped child belongs to an entry of the level
level_stage : (level : Level) (now : Option Stage) → is_level level now ≡ true → now ≡ Some (stage.Run level)
level_stage level now h = grind arith

pub settle_belongs : (goal : Goal) (later : List Event) (level : Level) (past : List Event) → is_sound goal
    (later ++ Settle level ∷ past) ≡ true → list_all (belongs level past) (unreaped_children past) ≡ true
settle_belongs goal later level past h = all_less (λ child. not (is_excluded past child)) (belongs level past) live
    (unreaped_children past) (all_fail (is_excluded past) (unreaped_children past)
    (not-true (list_any (is_excluded past) (unreaped_children past)) two.1)) where
      all : ((is_level level (stage_of past) && not (list_any (is_excluded past) (unreaped_children past))) ≡ true)
          × (list_all (is_served level (unreaped_children past) past) (table_of past) ≡ true)
      all = and_parts (is_level level (stage_of past) && not (list_any (is_excluded past) (unreaped_children past)))
          (list_all (is_served level (unreaped_children past) past) (table_of past))
          (settle_settled goal later level past h)

      two : (is_level level (stage_of past) ≡ true)
          × (not (list_any (is_excluded past) (unreaped_children past)) ≡ true)
      two =
          and_parts (is_level level (stage_of past)) (not (list_any (is_excluded past) (unreaped_children past))) all.0

      live : (child : Child) → not (is_excluded past child) ≡ true → belongs level past child ≡ true
      live child free = ap (λ now. may_live (entry_of child.id (table_of past)) child.act now)
          (sym (level_stage level (stage_of past) two.0))
          ∙ twice (may_live (entry_of child.id (table_of past)) child.act (stage_of past)) free where
            twice : (b : Bool) → not (not b) ≡ true → b ≡ true
            twice b h = grind arith

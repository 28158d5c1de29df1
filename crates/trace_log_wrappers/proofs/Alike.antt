-- Two traces off which init reads the same values, and why they stay so after each further happening.
use Rattle.trace_log_wrappers.proofs.BriefWords.{◌≡◌, refl, sym, ◌∙◌, ap, ℕ, true, not, ◌&&◌, ◌||◌, cond, List, ◌∷◌}
use Rattle.trace_log_wrappers.proofs.BriefWords.{◌++◌, filter}
use Rattle.trace_log_wrappers.proofs.BriefWords.{arith, act_of, Birth, Told, Nudge, Event, table_of, stage_of, time_of}
use Rattle.trace_log_wrappers.proofs.BriefWords.{Child}
use Rattle.trace_log_wrappers.proofs.BriefWords.{is_child_of, newborn, unreaped_children, kept_children, known_children}
use Rattle.trace_log_wrappers.proofs.BriefWords.{open_of}
use Rattle.trace_log_wrappers.proofs.BriefWords.{undone_of, is_untold, open_orders, is_excluded, untold_hits}
use Rattle.trace_log_wrappers.proofs.BriefWords.{has_untold_miss}
use Rattle.trace_log_wrappers.proofs.BriefWords.{is_birth_of, in_spell, spell_hits, tells_miss, is_missed, start_times}
use Rattle.trace_log_wrappers.proofs.BriefWords.{hold_times}
use Rattle.trace_log_wrappers.proofs.BriefWords.{wants_look, told_same, told_other, same_has, is_lasting}
use Rattle.trace_log_wrappers.proofs.BriefWords.{lasting_events}
use Rattle.trace_log_wrappers.proofs.Lasting.{table_lasting, stage_lasting, unreaped_lasting}

-- init reads the same values off both traces, except that the second may have more looks due
pub record Alike (past brief : List Event) : Type 0 where
  pub said : lasting_events past ≡ lasting_events brief
  pub time : time_of past ≡ time_of brief
  pub starts : (id : List ℕ) → start_times id past ≡ start_times id brief
  pub holds : (id : List ℕ) → hold_times id past ≡ hold_times id brief
  pub kept : (id : List ℕ)
      → filter (is_child_of id) (kept_children past) ≡ filter (is_child_of id) (kept_children brief)
  pub known : (id : List ℕ)
      → filter (is_child_of id) (known_children past) ≡ filter (is_child_of id) (known_children brief)
  pub orders : (id : List ℕ) → open_of id past ≡ open_of id brief
  pub undone : (id : List ℕ) → undone_of id past ≡ undone_of id brief
  pub untold : (id : List ℕ) → is_untold id past ≡ is_untold id brief
  pub listed : open_orders past ≡ open_orders brief
  pub hits : (id : List ℕ) → untold_hits id past ≡ untold_hits id brief
  pub misses : (id : List ℕ) → has_untold_miss id past ≡ has_untold_miss id brief
  pub spell : (child : Child) → spell_hits child past ≡ spell_hits child brief
  pub missed : (child : Child) → is_missed child past ≡ is_missed child brief
  pub looks : (id : List ℕ) → wants_look id past ≡ true → wants_look id brief ≡ true

pub alike_self : (past : List Event) → Alike past past
alike_self past = grind arith

pub alike_then : (a b c : List Event) → Alike a b → Alike b c → Alike a c
alike_then a b c x y = grind arith

-- functions that depend on the lasting happenings only
pub same_by : {X : Type 0} (f : List Event → X) → ((past : List Event) → f past ≡ f (lasting_events past))
    → (past brief : List Event) → lasting_events past ≡ lasting_events brief → f past ≡ f brief
same_by f by past brief said = by past ∙ ap f said ∙ sym (by brief)

pub same_table : (past brief : List Event) → lasting_events past ≡ lasting_events brief → table_of past ≡ table_of brief
same_table past brief said = same_by table_of table_lasting past brief said

pub same_stage : (past brief : List Event) → lasting_events past ≡ lasting_events brief → stage_of past ≡ stage_of brief
same_stage past brief said = same_by stage_of stage_lasting past brief said

pub same_unreaped : (past brief : List Event) → lasting_events past ≡ lasting_events brief
    → unreaped_children past ≡ unreaped_children brief
same_unreaped past brief said = same_by unreaped_children unreaped_lasting past brief said

pub same_excluded : (past brief : List Event) → lasting_events past ≡ lasting_events brief → (child : Child)
    → is_excluded past child ≡ is_excluded brief child
same_excluded past brief said child = grind (arith, same_table, same_stage)

said_cons : (happening : Event) (past brief : List Event) → lasting_events past ≡ lasting_events brief
    → lasting_events (happening ∷ past) ≡ lasting_events (happening ∷ brief)
said_cons happening past brief said = ap (λ rest. cond (is_lasting happening) (happening ∷ rest) rest) said

-- `told` replaces the known children of its id by its unreaped ones
told_alike : (id i : List ℕ) (there other before less : List Child) → there ≡ other
    → filter (is_child_of id) before ≡ filter
    (is_child_of id) less
    → filter (is_child_of id) (filter (is_child_of i) there ++ filter (λ child. not (is_child_of i child)) before)
    ≡ filter (is_child_of id) (filter (is_child_of i) other ++ filter (λ child. not (is_child_of i child)) less)
told_alike id i there other before less same rest = grind (arith, told_same, told_other)

newborn_cons : (i : List ℕ) (n : ℕ) (past brief : List Event) → lasting_events past ≡ lasting_events brief
    → newborn i n past ≡ newborn i n brief
newborn_cons i n past brief said = ap (λ table. let child : Child =
    record { id = i; number = n; act = act_of i table } in child) (same_table past brief said)

kept_cons : (id : List ℕ) (happening : Event) (past brief : List Event) → Alike past brief
    → filter (is_child_of id) (kept_children (happening ∷ past))
    ≡ filter (is_child_of id) (kept_children (happening ∷ brief))
kept_cons id (Birth i n) past brief a = ap (λ child. cond (is_child_of id child) (child ∷ filter (is_child_of id)
    (kept_children past)) (filter (is_child_of id) (kept_children past))) (newborn_cons i n past brief a.said)
    ∙ ap (λ rest. cond (is_child_of id (newborn i n brief)) (newborn i n brief ∷ rest) rest) (a.kept id)
kept_cons id (Told i) past brief a = told_alike id i (unreaped_children past) (unreaped_children brief)
    (kept_children past) (kept_children brief) (same_unreaped past brief a.said) (a.kept id)
kept_cons id _ past brief a = a.kept id

in_cons : (child : Child) (happening : Event) (past brief : List Event) → lasting_events past ≡ lasting_events brief
    → in_spell child happening past ≡ in_spell child happening brief
in_cons child happening past brief said = ap (λ b. b && not (is_birth_of child.id happening))
    (same_excluded (happening ∷ past) (happening ∷ brief) (said_cons happening past brief said) child)

missed_parts : (child : Child) (happening : Event) (past brief : List Event) → Alike past brief
    → (in_spell child happening past && (tells_miss child happening past || is_missed child past))
    ≡ (in_spell child happening brief && (tells_miss child happening brief || is_missed child brief))
missed_parts child happening past brief a = grind (arith, in_cons)

missed_cons : (child : Child) (happening : Event) (past brief : List Event) → Alike past brief
    → is_missed child (happening ∷ past) ≡ is_missed child (happening ∷ brief)
missed_cons child Nudge past brief a = refl
missed_cons child happening past brief a = missed_parts child happening past brief a

-- two traces stay alike after the same happening
pub alike_cons : (happening : Event) (past brief : List Event) → Alike past brief
    → Alike (happening ∷ past) (happening ∷ brief)
alike_cons happening past brief a =
    grind (arith, said_cons, kept_cons, told_alike, same_unreaped, in_cons, missed_cons, same_has)

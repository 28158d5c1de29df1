-- For a trace whose looks are free, sound or not, the brief form is lawful exactly if the trace is.
use Rattle.trace_log_wrappers.proofs.BriefWords.{◌≡◌, refl, sym, ◌∙◌, ap, ap₂, subst, ℕ, Bool, true, false, not, ◌&&◌}
use Rattle.trace_log_wrappers.proofs.BriefWords.{cond, List}
use Rattle.trace_log_wrappers.proofs.BriefWords.{[], ◌∷◌, ◌++◌, filter, length, Option, Some, None, is_none, arith}
use Rattle.trace_log_wrappers.proofs.BriefWords.{list_any}
use Rattle.trace_log_wrappers.proofs.BriefWords.{list_all, option_map_or, and_parts, or_parts, not-true, Entry, Level}
use Rattle.trace_log_wrappers.proofs.BriefWords.{Look}
use Rattle.trace_log_wrappers.proofs.BriefWords.{same_id, is_limited, entry_of, act_of, Asked, Birth, NoBirth, Reaped}
use Rattle.trace_log_wrappers.proofs.BriefWords.{Still}
use Rattle.trace_log_wrappers.proofs.BriefWords.{NoLook, Hit, Miss, Told, Clock, Nudge, Event, table_of, stage_of}
use Rattle.trace_log_wrappers.proofs.BriefWords.{is_child_of}
use Rattle.trace_log_wrappers.proofs.BriefWords.{unreaped_children, kept_children, open_of, is_untold, starts_in}
use Rattle.trace_log_wrappers.proofs.BriefWords.{is_excluded}
use Rattle.trace_log_wrappers.proofs.BriefWords.{is_level, is_served, is_settled, has_startable_entry, is_in_turn}
use Rattle.trace_log_wrappers.proofs.BriefWords.{is_limited_id}
use Rattle.trace_log_wrappers.proofs.BriefWords.{is_free}
use Rattle.trace_log_wrappers.proofs.BriefWords.{is_due_hold, may_term, may_kill, broken, is_lawful, Fault, breach_at}
use Rattle.trace_log_wrappers.proofs.BriefWords.{earlier}
use Rattle.trace_log_wrappers.proofs.BriefWords.{first_breach, Goal, may_come, is_sound, asked_free, free_told}
use Rattle.trace_log_wrappers.proofs.BriefWords.{sound_holds}
use Rattle.trace_log_wrappers.proofs.BriefWords.{sound_ind, same_id-is, any_same, is_none-is, told_same, told_other}
use Rattle.trace_log_wrappers.proofs.BriefWords.{told_known}
use Rattle.trace_log_wrappers.proofs.BriefWords.{reaped_other, in_look, with_telling, with_reading, with_early_reading}
use Rattle.trace_log_wrappers.proofs.BriefWords.{with_round}
use Rattle.trace_log_wrappers.proofs.BriefWords.{with_event, brief_of, are_looks_free, law_broken_by, first_broken}
use Rattle.trace_log_wrappers.proofs.Lasting.{grace_lasting, asked_lasting}
use Rattle.trace_log_wrappers.proofs.Alike.{Alike, alike_self, alike_then, alike_cons, same_by, same_table, same_stage}
use Rattle.trace_log_wrappers.proofs.Alike.{same_unreaped, same_excluded}
use Rattle.trace_log_wrappers.proofs.Shorter.{Free, undone_none, alike_free, alike_readings, alike_early, alike_rounds}
use Rattle.trace_log_wrappers.proofs.SameDues.{all_same, owed_same, held_same, full_same, excluded_any}

-- if every act of an id was told, its kept children are its unreaped ones
told_kept : (id : List ℕ) (past : List Event) → is_untold id past ≡ false
    → filter (is_child_of id) (kept_children past) ≡ filter (is_child_of id) (unreaped_children past)
told_kept id [] h = refl
told_kept id (Told i ∷ past) h = split (same_id id i) refl h (told_kept id past) where
  split : (b : Bool) → same_id id i ≡ b → (not b && is_untold id past) ≡ false → (is_untold id past ≡ false
      → filter (is_child_of id) (kept_children past) ≡ filter (is_child_of id) (unreaped_children past))
      → filter (is_child_of id)
      (filter (is_child_of i) (unreaped_children past)
      ++ filter (λ child. not (is_child_of i child)) (kept_children past))
      ≡ filter (is_child_of id) (unreaped_children past)
  split true same h before = told_same id i (unreaped_children past) (kept_children past) same
  split false differ h before = told_other id i (unreaped_children past) (kept_children past) differ ∙ before h
told_kept id (Birth i n ∷ past) h = grind (arith, told_kept id past)
told_kept id (Reaped i n status ∷ past) h =
    let parts = or_parts (same_id id i) (is_untold id past) h in
    told_kept id past parts.1 ∙ sym (reaped_other id i n (unreaped_children past) parts.0)
told_kept id (NoBirth i ∷ past) h = told_kept id past (or_parts (same_id id i) (is_untold id past) h).1
told_kept id (Still i ∷ past) h = told_kept id past (or_parts (same_id id i) (is_untold id past) h).1
told_kept id (NoLook i ∷ past) h = told_kept id past (or_parts (same_id id i) (is_untold id past) h).1
told_kept id (Hit i ∷ past) h = told_kept id past (or_parts (same_id id i) (is_untold id past) h).1
told_kept id (Miss i ∷ past) h = told_kept id past (or_parts (same_id id i) (is_untold id past) h).1
told_kept id (_ ∷ past) h = told_kept id past h

free_by : (id : List ℕ) (past : List Event) → open_of id past ≡ None → is_untold id past ≡ false → Free id past
free_by id past free told = record {
  order = free;
  undone = undone_none id past free;
  untold = told;
  known = sym (told_known id past told);
  kept = sym (told_kept id past told);
}

-- the traces are alike, and the looks of the second are free
abbrev Frees : List Event → List Event → Type 0
Frees past brief = Alike past brief × (are_looks_free brief ≡ true)

look_frees : (i j k : List ℕ) (past : List Event) → i ≡ j → i ≡ k → are_looks_free
    (Told i ∷ Still j ∷ Asked k Look ∷ past) ≡ true → Frees (Told i ∷ Still j ∷ Asked k Look ∷ past) past
look_frees i j k past first second h =
    let P : List ℕ → Type 0 = λ x. Alike (Told i ∷ Still x ∷ Asked i Look ∷ past) past in
    let Q : List ℕ → Type 0 = λ x. Alike (Told i ∷ Still j ∷ Asked x Look ∷ past) past in
    (subst Q second (subst P first (alike_free i past free)), parts.1) where
      parts : ((is_none (open_of k past) && not (is_untold k past)) ≡ true) × (are_looks_free past ≡ true)
      parts = and_parts (is_none (open_of k past) && not (is_untold k past)) (are_looks_free past) h

      two : (is_none (open_of k past) ≡ true) × (not (is_untold k past) ≡ true)
      two = and_parts (is_none (open_of k past)) (not (is_untold k past)) parts.0

      free : (id : List ℕ) → same_id id i ≡ true → Free id past
      free id same =
          let R : List ℕ → Type 0 = λ x. Free x past in
          subst R (sym (same_id-is id i same ∙ second))
          (free_by k past (is_none-is (open_of k past) two.0) (not-true (is_untold k past) two.1))

tell_frees : (i : List ℕ) (brief : List Event) → are_looks_free (Told i ∷ brief) ≡ true
    → Frees (Told i ∷ brief) (with_telling i brief)
tell_frees i (Still j ∷ Asked k Look ∷ brief) h = split (same_id i j) (same_id i k) (in_look brief) refl refl where
  whole : List Event
  whole = Told i ∷ Still j ∷ Asked k Look ∷ brief

  split : (b c d : Bool) → same_id i j ≡ b → same_id i k ≡ c → Frees whole (cond (b && c && not d) brief whole)
  split true true false first second = look_frees i j k brief (same_id-is i j first) (same_id-is i k second) h
  split true true true first second = (alike_self whole, h)
  split true false d first second = (alike_self whole, h)
  split false c d first second = (alike_self whole, h)
tell_frees i brief h = (alike_self (Told i ∷ brief), h)

read_frees : (reading : ℕ) (brief : List Event) → are_looks_free brief ≡ true
    → Frees (Clock reading ∷ brief) (with_reading reading brief)
read_frees reading (Clock before ∷ brief) h = (alike_readings reading before brief, h)
read_frees reading brief h = (alike_self (Clock reading ∷ brief), h)

early_frees : (reading : ℕ) (brief : List Event) → are_looks_free brief ≡ true
    → Frees (Clock reading ∷ brief) (with_early_reading reading brief)
early_frees reading (Nudge ∷ brief) h =
    let rest = read_frees reading brief h in (
      alike_then (Clock reading ∷ Nudge ∷ brief) (Nudge ∷ Clock reading ∷ brief) (Nudge ∷ with_reading reading brief)
          (alike_early reading brief) (alike_cons Nudge (Clock reading ∷ brief) (with_reading reading brief) rest.0),
      rest.1,
    )
early_frees reading brief h = read_frees reading brief h

round_frees : (brief : List Event) → are_looks_free brief ≡ true → Frees (Nudge ∷ brief) (with_round brief)
round_frees (Nudge ∷ brief) h = (alike_rounds brief, h)
round_frees brief h = (alike_self (Nudge ∷ brief), h)

then_frees : (happening : Event) (brief : List Event) → are_looks_free (happening ∷ brief) ≡ true
    → Frees (happening ∷ brief) (with_event happening brief)
then_frees (Told i) brief h = tell_frees i brief h
then_frees (Clock reading) brief h = early_frees reading brief h
then_frees Nudge brief h = round_frees brief h
then_frees happening brief h = (alike_self (happening ∷ brief), h)

free_cons : (happening : Event) (past brief : List Event) → Alike past brief → are_looks_free (happening ∷ past) ≡ true
    → are_looks_free brief ≡ true → are_looks_free (happening ∷ brief) ≡ true
free_cons happening past brief a h rest = grind arith

free_rest : (happening : Event) (past : List Event) → are_looks_free (happening ∷ past) ≡ true
    → are_looks_free past ≡ true
free_rest happening past h = grind arith

pub brief_frees : (past : List Event) → are_looks_free past ≡ true → Frees past (brief_of past)
brief_frees [] h = (alike_self [], refl)
brief_frees (happening ∷ past) h =
    let before = brief_frees past (free_rest happening past h) in
    let last = then_frees happening (brief_of past) (free_cons happening past (brief_of past) before.0 h before.1) in (
      alike_then (happening ∷ past) (happening ∷ brief_of past) (with_event happening (brief_of past))
          (alike_cons happening past (brief_of past) before.0) last.0,
      last.1,
    )

-- each law gives the same answer at a happening after two traces that are alike
placed_same : (id : List ℕ) (past brief : List Event) → Alike past brief
    → has_startable_entry id past ≡ has_startable_entry id brief
placed_same id past brief a = ap₂ (λ now table. option_map_or (λ (e : Entry). starts_in e now)
    (entry_of id table) false) (same_stage past brief a.said) (same_table past brief a.said)

turn_same : (id : List ℕ) (past brief : List Event) → Alike past brief → is_in_turn id past ≡ is_in_turn id brief
turn_same id past brief a = grind (arith, same_table, any_same, owed_same)

gone_same : (past brief : List Event) → Alike past brief
    → list_any (is_excluded past) (unreaped_children past) ≡ list_any (is_excluded brief) (unreaped_children brief)
gone_same past brief a = excluded_any past brief a (unreaped_children past) (unreaped_children brief)
    (λ id. ap (filter (is_child_of id)) (same_unreaped past brief a.said))

unreaped_served : (level : Level) (past brief : List Event) → Alike past brief → (e : Entry)
    → is_served level (unreaped_children past) past e ≡ is_served level (unreaped_children brief) brief e
unreaped_served level past brief a e = grind (arith, owed_same, same_by, asked_lasting, same_unreaped, held_same)

level_settled : (level : Level) (past brief : List Event) → Alike past brief
    → is_settled level (unreaped_children past) past ≡ is_settled level (unreaped_children brief) brief
level_settled level past brief a =
    ap₂ (λ now out. is_level level now && not out && list_all (is_served level (unreaped_children past) past)
    (table_of past)) (same_stage past brief a.said) (gone_same past brief a)
    ∙ ap (λ table. is_level level (stage_of brief) && not (list_any (is_excluded brief) (unreaped_children brief))
    && list_all (is_served level (unreaped_children past) past) table) (same_table past brief a.said)
    ∙ ap (λ served. is_level level (stage_of brief) && not (list_any (is_excluded brief) (unreaped_children brief))
    && served) (all_same (is_served level (unreaped_children past) past)
    (is_served level (unreaped_children brief) brief) (unreaped_served level past brief a) (table_of brief))

limited_same : (id : List ℕ) (past brief : List Event) → Alike past brief
    → is_limited_id id past ≡ is_limited_id id brief
limited_same id past brief a =
    ap (λ table. option_map_or is_limited (act_of id table) false) (same_table past brief a.said)

free_same : (id : List ℕ) (past brief : List Event) → Alike past brief → is_free id past ≡ is_free id brief
free_same id past brief a = grind (arith, limited_same, held_same, full_same)

hold_same : (id : List ℕ) (past brief : List Event) → Alike past brief → is_due_hold id past ≡ is_due_hold id brief
hold_same id past brief a = grind (arith, limited_same, held_same, full_same)

term_same : (id : List ℕ) (past brief : List Event) → Alike past brief → may_term id past ≡ may_term id brief
term_same id past brief a = grind (arith, any_same, same_excluded, same_unreaped)

kill_same : (id : List ℕ) (past brief : List Event) → Alike past brief → may_kill id past ≡ may_kill id brief
kill_same id past brief a = grind (arith, any_same, same_excluded, same_by, grace_lasting, same_unreaped)

pub broken_same : (happening : Event) (past brief : List Event) → Alike past brief
    → broken happening past ≡ broken happening brief
broken_same happening past brief a = grind
    (arith, same_unreaped, placed_same, turn_same, gone_same, level_settled, free_same, hold_same, term_same, kill_same)

then_lawful : (happening : Event) (brief : List Event)
    → is_lawful (happening ∷ brief) ≡ is_lawful (with_event happening brief)
then_lawful happening brief = grind arith

pub brief_judged : (past : List Event) → are_looks_free past ≡ true → is_lawful past ≡ is_lawful (brief_of past)
brief_judged [] h = refl
brief_judged (happening ∷ past) h = ap₂ (λ law rest. is_none law && rest)
    (broken_same happening past (brief_of past) (brief_frees past (free_rest happening past h)).0)
    (brief_judged past (free_rest happening past h)) ∙ then_lawful happening (brief_of past)

abbrev sooner : Option ℕ → Option ℕ → Option ℕ
sooner None later = later
sooner (Some law) later = Some law

law_step : (o : Option Fault) (position : ℕ) (law : Option ℕ)
    → law_broken_by (earlier o (breach_at position law)) ≡ sooner (law_broken_by o) law
law_step o position law = grind arith

law_cons : (happening : Event) (past : List Event) → law_broken_by (first_breach (happening ∷ past))
    ≡ sooner (law_broken_by (first_breach past)) (broken happening past)
law_cons happening past = law_step (first_breach past) (length past) (broken happening past)

law_same : (happening : Event) (past brief : List Event) → broken happening past ≡ broken happening brief
    → law_broken_by (first_breach past) ≡ law_broken_by (first_breach brief)
    → law_broken_by (first_breach (happening ∷ past)) ≡ law_broken_by (first_breach (happening ∷ brief))
law_same happening past brief law rest = law_cons happening past ∙ ap₂ sooner rest law ∙ sym (law_cons happening brief)

tell_law : (i : List ℕ) (brief : List Event)
    → law_broken_by (first_breach (Told i ∷ brief)) ≡ law_broken_by (first_breach (with_telling i brief))
tell_law i brief = grind arith

then_law : (happening : Event) (brief : List Event)
    → law_broken_by (first_breach (happening ∷ brief)) ≡ law_broken_by (first_breach (with_event happening brief))
then_law happening brief = grind (arith, tell_law)

pub breach_same : (past : List Event) → are_looks_free past ≡ true → first_broken past ≡ first_broken (brief_of past)
breach_same [] h = refl
breach_same (happening ∷ past) h = law_same happening past (brief_of past)
    (broken_same happening past (brief_of past) (brief_frees past (free_rest happening past h)).0)
    (breach_same past (free_rest happening past h)) ∙ then_law happening (brief_of past)

-- the looks of a sound trace are free
pub sound_frees : (goal : Goal) (past : List Event) → is_sound goal past ≡ true → are_looks_free past ≡ true
sound_frees goal past h = sound_ind goal (λ before. are_looks_free before ≡ true) (λ table distinct. refl) next past h
  where
    next : (happening : Event) (before : List Event) → may_come goal happening before ≡ true
        → is_sound goal before ≡ true → are_looks_free before ≡ true → are_looks_free (happening ∷ before) ≡ true
    next (Asked i Look) before may sound rest = grind (arith, asked_free, free_told, sound_holds)
    next _ before may sound rest = rest

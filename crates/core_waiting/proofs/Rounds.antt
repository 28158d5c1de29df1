-- A level is announced settled after one round more than there are waited entries to come.
use Rattle.core_waiting.proofs.Words.{◌≡◌, ◌≤◌, ◌<◌, refl, sym, ◌∙◌, ap, subst, ℕ, Bool, true, false, not, ◌&&◌, List}
use Rattle.core_waiting.proofs.Words.{[], ◌∷◌, ◌++◌, filter, length, Some, arith, list_any, option_map_or, false≢true}
use Rattle.core_waiting.proofs.Words.{false_from_ne_true, and_parts, and_from, or_left, or_right, Entry, Start, same_id}
use Rattle.core_waiting.proofs.Words.{is_limited, waited_of, same_id-self, or_either, not_from, entry_of, NewTable}
use Rattle.core_waiting.proofs.Words.{Enter, Asked, Goal, Event, table_of, is_wanted, is_announced, is_sound, MayRun}
use Rattle.core_waiting.proofs.Words.{due_facts, sound_holds, at_moment, AtRest, is_level_announced, is_calm}
use Rattle.core_waiting.proofs.Words.{is_start_of, is_waited_start, is_waited_id, is_wanted_wait, count_wanted_waits}
use Rattle.trace_events.specs.declared.happenings.Happening.TheVariants.{Call, Power, Settle}
use Rattle.trace_events.specs.declared.steps.Step.TheVariants as step
use Rattle.core_waiting.proofs.Rest.{waited_free, not_first}
use Rattle.core_waiting.proofs.Settled.{found_id}
use Rattle.core_waiting.proofs.Once.{wanted_before, same_table}
use Rattle.core_waiting.proofs.Progress.{Next, next_of, Quit, quit_at, same_stage}

-- fewer elements pass the narrower test
pub fewer : (p q : Entry → Bool) → ((e : Entry) → p e ≡ true → q e ≡ true) → (es : List Entry)
    → length (filter p es) ≤ length (filter q es)
fewer p q less [] = grind arith
fewer p q less (e ∷ es) = grind (arith, fewer p q less es)

fewer_by_one : (p q : Entry → Bool) → ((e : Entry) → p e ≡ true → q e ≡ true) → (es : List Entry)
    → list_any (λ e. q e && not (p e)) es ≡ true → length (filter p es) < length (filter q es)
fewer_by_one p q less [] h = grind (arith, fewer)
fewer_by_one p q less (e ∷ es) h = grind (arith, fewer_by_one p q less es, fewer)

entry_any : (r : Entry → Bool) (id : List ℕ) (es : List Entry) (e : Entry) → entry_of id es ≡ Some e → r e ≡ true
    → list_any r es ≡ true
entry_any r id [] e found own = grind arith
entry_any r id (x ∷ es) e found own = grind (arith, entry_any r id es e)

pub unlimited : (e : Entry) → waited_of e ≡ true → is_limited e.act ≡ false
unlimited e waited = false_from_ne_true (is_limited e.act) (λ limited. false≢true (waited_free e.act waited limited))

-- a waited entry that is started in a calm stretch was wanted before it
record Begun (between past : List Event) : Type 0 where
  pub id : List ℕ
  pub started : list_any (is_start_of id) between ≡ true
  pub entry : Entry
  pub found : entry_of id (table_of past) ≡ Some entry
  pub waited : waited_of entry ≡ true
  pub wanted : is_wanted entry past ≡ true

begun_later : (happening : Event) (between past : List Event) → Begun between past → Begun (happening ∷ between) past
begun_later happening between past rest = record {
  id = rest.id;
  started = or_right (is_start_of rest.id happening) (list_any (is_start_of rest.id) between) rest.started;
  entry = rest.entry;
  found = rest.found;
  waited = rest.waited;
  wanted = rest.wanted;
}

begun_here : (goal : Goal) (i : List ℕ) (between past : List Event) → Next goal (Asked i Start) between past
    → is_waited_id i past ≡ true → Begun (Asked i Start ∷ between) past
begun_here goal i between past next waited = record {
  id = i;
  started = or_left (same_id i i) (list_any (is_start_of i) between) (same_id-self i);
  entry = run.entry;
  found = found;
  waited = waits;
  wanted = wanted_before run.entry between past (unlimited run.entry waits) next.calm run.wanted;
} where
  run : MayRun i (table_of (between ++ past)) (between ++ past)
  run = (due_facts goal (between ++ past) (step.Order i Start) next.may).run

  found : entry_of i (table_of past) ≡ Some run.entry
  found = ap (entry_of i) (sym (same_table between past next.calm))
      ∙ run.found (sound_holds goal (between ++ past) next.sound).distinct

  waits : waited_of run.entry ≡ true
  waits = ap (λ o. option_map_or waited_of o false) (sym found) ∙ waited

begun : (goal : Goal) (between past : List Event) → is_sound goal (between ++ past) ≡ true → is_calm between ≡ true
    → list_any (is_waited_start past) between ≡ true → Begun between past
begun goal [] past sound calm some = absurd (false≢true some)
begun goal (Asked i Start ∷ between) past sound calm some =
    let next = next_of goal (Asked i Start) between past sound calm in
    or_either (is_waited_id i past) (list_any (is_waited_start past) between) some (begun_here goal i between past next)
    (λ before. begun_later (Asked i Start) between past (begun goal between past next.sound next.calm before))
begun goal (happening ∷ between) past sound calm some =
    let next = next_of goal happening between past sound calm in
    begun_later happening between past (begun goal between past next.sound next.calm some)

-- so fewer are to come after it
pub fewer_to_come : (goal : Goal) (between past : List Event) → is_sound goal (between ++ past) ≡ true
    → is_calm between ≡ true → list_any (is_waited_start past) between ≡ true
    → count_wanted_waits (between ++ past) < count_wanted_waits past
fewer_to_come goal between past sound calm some = ap_less (begun goal between past sound calm some) where
  less : (e : Entry) → is_wanted_wait (between ++ past) e ≡ true → is_wanted_wait past e ≡ true
  less e h = let parts = and_parts (waited_of e) (is_wanted e (between ++ past)) h in and_from (waited_of e)
      (is_wanted e past) parts.0 (wanted_before e between past (unlimited e parts.0) calm parts.1)

  ap_less : Begun between past → count_wanted_waits (between ++ past) < count_wanted_waits past
  ap_less it =
      let quit : Quit it.id (between ++ past) = quit_at goal it.id between past sound calm it.started in
      let done : is_wanted it.entry (between ++ past) ≡ false =
      quit.done it.entry (found_id it.id (table_of past) it.entry it.found) (unlimited it.entry it.waited) in
      let one : length (filter (is_wanted_wait (between ++ past)) (table_of past)) < length
      (filter (is_wanted_wait past) (table_of past)) =
      fewer_by_one (is_wanted_wait (between ++ past)) (is_wanted_wait past) less
      (table_of past)
      (entry_any (λ e. is_wanted_wait past e && not (is_wanted_wait (between ++ past) e)) it.id (table_of past)
      it.entry it.found (and_from (is_wanted_wait past it.entry) (not (is_wanted_wait (between ++ past) it.entry))
      (and_from (waited_of it.entry) (is_wanted it.entry past) it.waited it.wanted) (not_from (is_wanted_wait
      (between ++ past) it.entry) (ap (λ b. b && is_wanted it.entry (between ++ past)) it.waited ∙ done)))) in
      subst (λ es. length (filter (is_wanted_wait (between ++ past)) es) < count_wanted_waits past)
      (sym (same_table between past calm)) one

-- an announced level stays announced
still_announced : (between past : List Event) → is_calm between ≡ true → is_announced past ≡ true
    → is_announced (between ++ past) ≡ true
still_announced [] past calm told = told
still_announced (NewTable table ∷ between) past calm told = absurd (false≢true calm)
still_announced (Enter s grace ∷ between) past calm told = absurd (false≢true calm)
still_announced (Power kind ∷ between) past calm told = absurd (false≢true calm)
still_announced (Call letter ∷ between) past calm told = absurd (false≢true calm)
still_announced (Settle level ∷ between) past calm told = refl
still_announced (happening ∷ between) past calm told = still_announced between past calm told

pub still_level : (between past : List Event) → is_calm between ≡ true → is_level_announced past ≡ true
    → is_level_announced (between ++ past) ≡ true
still_level between past calm h = grind (arith, same_stage, still_announced)

pub sound_rest : (goal : Goal) (later past : List Event) → is_sound goal (later ++ past) ≡ true → AtRest goal past
    → is_sound goal past ≡ true
sound_rest goal later past sound rest = at_moment goal (λ x. AtRest goal x → is_sound goal x ≡ true)
    (λ h. absurd (not_first goal h)) (λ x ok h. ok) later past sound rest

-- Over a calm stretch a waited entry starts only once.
use Rattle.core_waiting.proofs.Words.{◌≡◌, refl, sym, ◌∙◌, ap, subst, ℕ, Bool, true, false, not, ◌&&◌, ◌||◌, List, []}
use Rattle.core_waiting.proofs.Words.{◌∷◌, ◌++◌, Some, option_map_or, false≢true, false_from_ne_true, and_parts}
use Rattle.core_waiting.proofs.Words.{and_from, Entry, Act, Start, same_id, wanted_by, is_limited, stays_called}
use Rattle.core_waiting.proofs.Words.{waited_of, same_id-self, entry_of, NewTable, Enter, Asked, Goal, Event, table_of}
use Rattle.core_waiting.proofs.Words.{starts_now, has_no_running_child, is_asked, is_called, is_wanted, is_sound}
use Rattle.core_waiting.proofs.Words.{MayRun}
use Rattle.core_waiting.proofs.Words.{due_facts, sound_holds, step_at, is_calm, is_waited_id}
use Rattle.init_words.specs.declared.actions.Act.TheVariants as act
use Rattle.trace_events.specs.declared.happenings.Happening.TheVariants.{Call, Power}
use Rattle.trace_events.specs.declared.steps.Step.TheVariants as step
use Rattle.core_waiting.proofs.Rest.{waited_free}

-- an action without a respawn limit wants no more if fewer things are fresh and called, whatever runs
less_wanted : (a : Act) (idle other fresh was_fresh called was_called : Bool) → is_limited a ≡ false
    → (fresh ≡ true → was_fresh ≡ true) → (called ≡ true → was_called ≡ true) → wanted_by a idle fresh called ≡ true
    → wanted_by a other was_fresh was_called ≡ true
less_wanted act.Sysinit idle other fresh was_fresh called was_called free f g h = f h
less_wanted act.Boot idle other fresh was_fresh called was_called free f g h = f h
less_wanted act.Bootwait idle other fresh was_fresh called was_called free f g h = f h
less_wanted act.Wait idle other fresh was_fresh called was_called free f g h = f h
less_wanted act.Once idle other fresh was_fresh called was_called free f g h = f h
less_wanted act.Powerwait idle other fresh was_fresh called was_called free f g h = g h
less_wanted act.Powerfail idle other fresh was_fresh called was_called free f g h = g h
less_wanted act.Powerfailnow idle other fresh was_fresh called was_called free f g h = g h
less_wanted act.Powerokwait idle other fresh was_fresh called was_called free f g h = g h
less_wanted act.Respawn idle other fresh was_fresh called was_called free f g h = absurd (false≢true (sym free))
less_wanted act.Ondemand idle other fresh was_fresh called was_called free f g h = absurd (false≢true (sym free))
less_wanted _ idle other fresh was_fresh called was_called free f g h = absurd (false≢true h)

unasked_before : (same asked : Bool) → not (same || asked) ≡ true → not asked ≡ true
unasked_before true asked h = absurd (false≢true h)
unasked_before false asked h = h

wanted_then : (e : Entry) (later past : List Event) → is_limited e.act ≡ false → starts_now e later ≡ starts_now e past
    → (not (is_asked e.id later) ≡ true → not (is_asked e.id past) ≡ true)
    → (is_called e later ≡ true → is_called e past ≡ true) → is_wanted e later ≡ true → is_wanted e past ≡ true
wanted_then e later past free same f g h =
    let parts = and_parts (starts_now e later)
    (wanted_by e.act (has_no_running_child e.id later) (not (is_asked e.id later)) (is_called e later)) h in
    and_from (starts_now e past) (wanted_by e.act (has_no_running_child e.id past) (not (is_asked e.id past))
    (is_called e past)) (sym same ∙ parts.0)
    (less_wanted e.act (has_no_running_child e.id later) (has_no_running_child e.id past)
    (not (is_asked e.id later)) (not (is_asked e.id past)) (is_called e later) (is_called e past) free f g parts.1)

pub calm_before : (e : Entry) (happening : Event) (past : List Event) → is_limited e.act ≡ false
    → is_calm (happening ∷ []) ≡ true → is_wanted e (happening ∷ past) ≡ true → is_wanted e past ≡ true
calm_before e (NewTable table) past free calm h = absurd (false≢true calm)
calm_before e (Enter s grace) past free calm h = absurd (false≢true calm)
calm_before e (Power kind) past free calm h = absurd (false≢true calm)
calm_before e (Call letter) past free calm h = absurd (false≢true calm)
calm_before e (Asked i Start) past free calm h =
    wanted_then e (Asked i Start ∷ past) past free refl (unasked_before (same_id e.id i) (is_asked e.id past))
    (λ called. (and_parts (stays_called e.act || not (same_id e.id i)) (is_called e past) called).1) h
calm_before e happening past free calm h =
    wanted_then e (happening ∷ past) past free refl (λ fresh. fresh) (λ called. called) h

pub calm_parts : (happening : Event) (between : List Event) → is_calm (happening ∷ between) ≡ true
    → (is_calm (happening ∷ []) ≡ true) × (is_calm between ≡ true)
calm_parts (NewTable table) between h = absurd (false≢true h)
calm_parts (Enter s grace) between h = absurd (false≢true h)
calm_parts (Power kind) between h = absurd (false≢true h)
calm_parts (Call letter) between h = absurd (false≢true h)
calm_parts happening between h = (refl, h)

pub wanted_before : (e : Entry) (between past : List Event) → is_limited e.act ≡ false → is_calm between ≡ true
    → is_wanted e (between ++ past) ≡ true → is_wanted e past ≡ true
wanted_before e [] past free calm h = h
wanted_before e (happening ∷ between) past free calm h =
    let parts = calm_parts happening between calm in
    wanted_before e between past free parts.1 (calm_before e happening (between ++ past) free parts.0 h)

pub same_table : (between past : List Event) → is_calm between ≡ true → table_of (between ++ past) ≡ table_of past
same_table [] past calm = refl
same_table (NewTable table ∷ between) past calm = absurd (false≢true calm)
same_table (Enter s grace ∷ between) past calm = absurd (false≢true calm)
same_table (Power kind ∷ between) past calm = absurd (false≢true calm)
same_table (Call letter ∷ between) past calm = absurd (false≢true calm)
same_table (happening ∷ between) past calm = same_table between past calm

-- once it was asked, it is not wanted
asked_done : (a : Act) (starts idle called : Bool) → is_limited a ≡ false
    → (starts && wanted_by a idle false ((stays_called a || false) && called)) ≡ false
asked_done a false idle called free = refl
asked_done act.Respawn true idle called free = absurd (false≢true (sym free))
asked_done act.Ondemand true idle called free = absurd (false≢true (sym free))
asked_done _ true idle called free = refl

pub not_again : (e : Entry) (past : List Event) → is_limited e.act ≡ false
    → is_wanted e (Asked e.id Start ∷ past) ≡ false
not_again e past free = at (same_id e.id e.id) (same_id-self e.id) where
  at : (b : Bool) → b ≡ true
      → (starts_now e past && wanted_by e.act (has_no_running_child e.id (Asked e.id Start ∷ past))
      (not (b || is_asked e.id past)) ((stays_called e.act || not b) && is_called e past)) ≡ false
  at true own =
      asked_done e.act (starts_now e past) (has_no_running_child e.id (Asked e.id Start ∷ past)) (is_called e past) free
  at false own = absurd (false≢true own)

pub starts_once : (goal : Goal) (later between past : List Event) (id : List ℕ) → is_sound goal (later ++ Asked id Start
    ∷ (between ++ Asked id Start ∷ past)) ≡ true → is_calm between ≡ true → is_waited_id id past ≡ false
starts_once goal later between past id h calm =
    ap (λ x. option_map_or waited_of x false) found ∙ false_from_ne_true (waited_of run.entry) (λ waited. false≢true
    (sym (not_again run.entry past (unlimited waited)) ∙ subst (λ i. is_wanted run.entry (Asked i Start ∷ past) ≡ true)
    (sym run.own) (wanted_before run.entry between (Asked id Start ∷ past) (unlimited waited) calm run.wanted))) where
      run : MayRun id (table_of (between ++ Asked id Start ∷ past)) (between ++ Asked id Start ∷ past)
      run = (due_facts goal (between ++ Asked id Start ∷ past) (step.Order id Start)
          (step_at goal later (Asked id Start) (between ++ Asked id Start ∷ past) refl h).0).run

      found : entry_of id (table_of past) ≡ Some run.entry
      found = ap (entry_of id) (sym (same_table between (Asked id Start ∷ past) calm))
          ∙ run.found (sound_holds goal (between ++ Asked id Start ∷ past)
          (step_at goal later (Asked id Start) (between ++ Asked id Start ∷ past) refl h).1).distinct

      unlimited : waited_of run.entry ≡ true → is_limited run.entry.act ≡ false
      unlimited waited =
          false_from_ne_true (is_limited run.entry.act)
          (λ limited. false≢true (waited_free run.entry.act waited limited))

-- Each part of the state, updated by a happening, is what the past with the happening gives.
use Rattle.trace_check.proofs.Words.{arith, ◌≡◌, refl, sym, ◌∙◌, ap, ℕ, Bool, true, false, not, ◌&&◌, ◌||◌, cond}
use Rattle.trace_check.proofs.Words.{List, [], ◌∷◌, ◌++◌, filter, take, Option, Some, None, list_any, option_map}
use Rattle.trace_check.proofs.Words.{option_map_or, not_from_true, list_any-append, STARTS, Entry, OrderKind, Start}
use Rattle.trace_check.proofs.Words.{Term, same_id, has_id, entry_of, is_distinct, NewTable, Enter, Call, Power, Asked}
use Rattle.trace_check.proofs.Words.{Hit, Event, table_of, stage_of, grace_of, time_of, Child, is_child_of, has_child}
use Rattle.trace_check.proofs.Words.{open_of, unreaped_children, kept_children, is_order, is_asked, is_called}
use Rattle.trace_check.proofs.Words.{starts_in, untold_hits, start_times, hold_times, same_id-is, same_id-apart}
use Rattle.trace_check.proofs.Words.{not_from, or_false, and_false, any_within, any_without, table_after, stage_after}
use Rattle.trace_check.proofs.Words.{grace_after, time_after, order_after, kept_after, is_changed, asked_after}
use Rattle.trace_check.proofs.Words.{is_named, stays_called_in, called_after, sent_after, starts_after, hold_after}
use Rattle.trace_check.proofs.Words.{calls_of, has_sent, newest}
use Rattle.init_words.specs.Actions.{stays_called}
use Rattle.trace_laws.proofs.Tests.{never}
use Rattle.trace_check.proofs.Lone.{found_passes}
use Rattle.trace_check.proofs.Found.{entry_any, id_any}

pub table_step : (happening : Event) (past : List Event)
    → table_after happening (table_of past) ≡ table_of (happening ∷ past)
table_step happening past = grind arith

pub stage_step : (happening : Event) (past : List Event)
    → stage_after happening (stage_of past) ≡ stage_of (happening ∷ past)
stage_step happening past = grind arith

pub grace_step : (happening : Event) (past : List Event)
    → grace_after happening (grace_of past) ≡ grace_of (happening ∷ past)
grace_step happening past = grind arith

pub time_step : (happening : Event) (past : List Event)
    → time_after happening (time_of past) ≡ time_of (happening ∷ past)
time_step happening past = grind arith

pub order_step : (happening : Event) (id : List ℕ) (past : List Event)
    → order_after happening id (open_of id past) ≡ open_of id (happening ∷ past)
order_step happening id past = grind arith

-- after a Told, the kept children of its id are its unreaped ones
told_kept : (id i : List ℕ) (unreaped kept : List Child) → cond (same_id id i) (has_child i unreaped)
    (has_child id kept)
    ≡ has_child id (filter (is_child_of i) unreaped ++ filter (λ child. not (is_child_of i child)) kept)
told_kept id i unreaped kept =
    split (same_id id i) refl
    ∙ sym (list_any-append (is_child_of id) (filter (is_child_of i) unreaped) (filter others kept)) where
      others : Child → Bool
      others child = not (is_child_of i child)

      split : (b : Bool) → same_id id i ≡ b → cond b (has_child i unreaped) (has_child id kept)
          ≡ (list_any (is_child_of id) (filter (is_child_of i) unreaped)
          || list_any (is_child_of id) (filter others kept))
      split true same =
          let is : id ≡ i = same_id-is id i same in
          let own : has_child i unreaped
          ≡ (list_any (is_child_of i) (filter (is_child_of i) unreaped)
          || list_any (is_child_of i) (filter others kept)) =
          sym (or_false (has_child i unreaped)) ∙ ap (λ b. has_child i unreaped || b)
          (sym (any_without (is_child_of i) others (λ child here. not_from_true (is_child_of i child) here) kept))
          ∙ ap (λ b. b || list_any (is_child_of i) (filter others kept))
          (sym (any_within (is_child_of i) (is_child_of i) (λ child here. here) unreaped)) in
          own
          ∙ ap (λ x. list_any (is_child_of x) (filter (is_child_of i) unreaped)
          || list_any (is_child_of x) (filter others kept)) (sym is)
      split false differ = grind (arith, any_within, others, not_from, same_id-apart, any_without)

pub kept_step : (is_alive : List ℕ → Bool) (happening : Event) (id : List ℕ) (past : List Event)
    → ((i : List ℕ) → is_alive i ≡ has_child i (unreaped_children past)) → kept_after is_alive happening id
    (has_child id (kept_children past)) ≡ has_child id (kept_children (happening ∷ past))
kept_step is_alive happening id past alive = grind (arith, told_kept)

pub asked_step : (happening : Event) (id : List ℕ) (past : List Event)
    → asked_after (table_of past) happening id (is_asked id past) ≡ is_asked id (happening ∷ past)
asked_step (Enter stage grace) id past = refl
asked_step (NewTable table) id past =
    ap (λ b. not b && is_asked id past) (id_any id (λ i. is_changed i table (table_of past)) table)
asked_step (Asked i Start) id past = refl
asked_step _ id past = refl

-- an entry is called if it is named now or was called before
named_or : (q r : Entry → Bool) (o : Option Entry)
    → (option_map_or q o false || option_map_or r o false) ≡ option_map_or (λ e. q e || r e) o false
named_or q r o = grind arith

-- a Start of an id ends the call of its entry, unless the action stays called
start_ends : (id i : List ℕ) (r : Entry → Bool) (table : List Entry)
    → ((stays_called_in table id || not (same_id id i)) && option_map_or r (entry_of id table) false)
    ≡ option_map_or (λ e. (stays_called e.act || not (same_id e.id i)) && r e) (entry_of id table) false
start_ends id i r table = split (entry_of id table) refl where
  stays : Option Entry → Bool
  stays o = option_map_or stays_called (option_map (λ (e : Entry). e.act) o) false

  split : (o : Option Entry) → entry_of id table ≡ o → ((stays o || not (same_id id i)) && option_map_or r o false)
      ≡ option_map_or (λ e. (stays_called e.act || not (same_id e.id i)) && r e) o false
  split None is = and_false (not (same_id id i))
  split (Some e) is = ap (λ x. (stays_called e.act || not (same_id x i)) && r e)
      (same_id-is id e.id (found_passes (has_id id) table e is))

pub called_step : (happening : Event) (id : List ℕ) (past : List Event) → is_distinct (table_of past) ≡ true
    → called_after (table_of past) (stage_of past) happening id (calls_of id past) ≡ calls_of id (happening ∷ past)
called_step (Enter stage grace) id past distinct = never (entry_of id (table_of past))
called_step (NewTable table) id past distinct = never (entry_of id table)
called_step (Power kind) id past distinct = ap (λ b. b || calls_of id past)
    (entry_any id (λ e. is_named (Power kind) e && starts_in e (stage_of past)) (table_of past) distinct) ∙ named_or
    (λ e. is_named (Power kind) e && starts_in e (stage_of past)) (λ e. is_called e past) (entry_of id (table_of past))
called_step (Call letter) id past distinct = ap (λ b. b || calls_of id past)
    (entry_any id (λ e. is_named (Call letter) e && starts_in e (stage_of past)) (table_of past) distinct) ∙ named_or
    (λ e. is_named (Call letter) e && starts_in e (stage_of past)) (λ e. is_called e past) (entry_of id (table_of past))
called_step (Asked i Start) id past distinct = start_ends id i (λ e. is_called e past) (table_of past)
called_step _ id past distinct = refl

-- whether a TERM is untold, after the Hits of an id were dropped or kept
forgotten : (b : Bool) (hits : List (Option OrderKind))
    → (not b && list_any (is_order Term) hits) ≡ list_any (is_order Term) (cond b [] hits)
forgotten true hits = refl
forgotten false hits = refl

pub sent_step : (open_order : List ℕ → Option OrderKind) (happening : Event) (id : List ℕ) (past : List Event)
    → ((i : List ℕ) → open_order i ≡ open_of i past)
    → sent_after open_order happening id (has_sent id past) ≡ has_sent id (happening ∷ past)
sent_step open_order (Hit i) id past orders = split (same_id id i) refl where
  split : (b : Bool) → same_id id i ≡ b → (b && is_order Term (open_order i) || has_sent id past)
      ≡ list_any (is_order Term) (cond b (open_of id past ∷ untold_hits id past) (untold_hits id past))
  split true same =
      ap (λ o. is_order Term o || has_sent id past) (orders i ∙ ap (λ x. open_of x past) (sym (same_id-is id i same)))
  split false differ = refl
sent_step open_order happening id past orders = grind (arith, forgotten)

pub starts_step : (happening : Event) (id : List ℕ) (past : List Event) → starts_after (time_of past) happening id
    (take STARTS (start_times id past)) ≡ take STARTS (start_times id (happening ∷ past))
starts_step happening id past = grind arith

pub hold_step : (happening : Event) (id : List ℕ) (past : List Event)
    → hold_after (time_of past) happening id (newest (hold_times id past)) ≡ newest (hold_times id (happening ∷ past))
hold_step happening id past = grind arith

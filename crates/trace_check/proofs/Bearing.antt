-- The children and the spells after a happening, provided that no birth gave an id a second unreaped child.
use Rattle.trace_check.proofs.Words.{◌≡◌, refl, sym, ◌∙◌, ap, ℕ, Bool, true, false, not, ◌&&◌, ◌==◌, cond, List, []}
use Rattle.trace_check.proofs.Words.{◌∷◌, ◌++◌, map, Option, Some, None, option_map, option_map_or, Entry, Stage}
use Rattle.trace_check.proofs.Words.{same_id, entry_of, act_of, NewTable, Enter, Birth, Reaped, Told, Nudge, Event}
use Rattle.trace_check.proofs.Words.{table_of, stage_of, time_of, Child, is_child_of, is_child, has_child, newborn}
use Rattle.trace_check.proofs.Words.{unreaped_children, is_excluded, may_live, Signal, untold_hits, spell_hits, told_at}
use Rattle.trace_check.proofs.Words.{broken, same_id-is, same_id-self, same_id-sym, not_from, and_true, and_false}
use Rattle.trace_check.proofs.Words.{is_lone, lone_filter, UnreapedChild, is_numbered, child_after, child_may_live}
use Rattle.trace_check.proofs.Words.{is_child_excluded}
use Rattle.trace_check.proofs.Words.{earliest, term_after, child_of, has_sent, living_of, least_term, term_of}
use Rattle.init_words.specs.declared.children.Status.{Status}
use Rattle.trace_laws.proofs.Spells.{is_still, spell_still, spell_nudge, spell_enter, spell_table, spell_birth}
use Rattle.trace_laws.proofs.Spells.{spell_told}
use Rattle.trace_check.proofs.Lookups.{none_both}
use Rattle.trace_check.proofs.Lone.{by_child, left_if, lone_left}
use Rattle.trace_check.proofs.Terms.{told_terms}

-- if each birth is for an id without an unreaped child, no id has two of them
alone_from : (b : Bool) (rest : Option ℕ) → cond (not (not b)) (Some 1) rest ≡ None → b ≡ false
alone_from true rest h = absurd (cc)
alone_from false rest h = refl

pub lone_step : (happening : Event) (past : List Event) → broken happening past ≡ None
    → ((id : List ℕ) → is_lone (is_child_of id) (unreaped_children past) ≡ true) → (id : List ℕ)
    → is_lone (is_child_of id) (unreaped_children (happening ∷ past)) ≡ true
lone_step (Birth i n) past lawful lone id = split (same_id id i) refl where
  split : (b : Bool) → same_id id i ≡ b
      → cond b (not (has_child id (unreaped_children past))) (is_lone (is_child_of id) (unreaped_children past)) ≡ true
  split true same = not_from (has_child id (unreaped_children past)) (ap (λ x. has_child x (unreaped_children past))
      (same_id-is id i same) ∙ alone_from (has_child i (unreaped_children past)) _ lawful)
  split false differ = lone id
lone_step (Reaped i n status) past lawful lone id =
    lone_filter (is_child_of id) (λ child. not (is_child i n child)) (unreaped_children past) (lone id)
lone_step _ past lawful lone id = lone id

-- a reaping removes the child with its id and number
module _ (i : List ℕ) (n : ℕ) (status : Status) (past : List Event) (child : List ℕ → Option UnreapedChild) where
  abbrev left : Child → Bool
  left c = not (is_child i n c)

  -- what is kept about the child of an id after the reaping, by what was kept before it
  reaped : {X : Type 0} (kept : Option X) (after : Option Child → Option X) → after None ≡ None → (c : Child)
      → child c.id ≡ Some (living_of c) → kept ≡ after (Some c)
      → cond (same_id c.id i && is_numbered n (child i)) None kept ≡ after (left_if left (Some c))
  reaped {X} kept after none c is own = split (same_id c.id i) refl where
    numbered : (b : Bool) → cond b None kept ≡ after (cond (not b) (Some c) None)
    numbered true = sym none
    numbered false = own

    split : (b : Bool) → same_id c.id i ≡ b → cond (b && is_numbered n (child i)) None kept
        ≡ after (cond (not (same_id i c.id && n == c.number)) (Some c) None)
    split true same =
        ap (λ o. cond (is_numbered n o) None kept) (ap child (sym (same_id-is c.id i same)) ∙ is)
        ∙ numbered (n == c.number)
        ∙ ap (λ b. after (cond (not (b && n == c.number)) (Some c) None)) (sym (same_id-sym i c.id ∙ same))
    split false differ =
        own ∙ ap (λ b. after (cond (not (b && n == c.number)) (Some c) None)) (sym (same_id-sym i c.id ∙ differ))

  child_reaped : (id : List ℕ) → child id ≡ option_map living_of (child_of id past) → cond
      (same_id id i && is_numbered n (child i)) None (child id) ≡ option_map living_of (left_if left (child_of id past))
  child_reaped id = by_child (λ x o. child x ≡ option_map living_of o
      → cond (same_id x i && is_numbered n (child i)) None (child x) ≡ option_map living_of (left_if left o))
      (λ x is. ap (cond (same_id x i && is_numbered n (child i)) None) is
      ∙ none_both (same_id x i && is_numbered n (child i)))
      (λ c is. reaped (child c.id) (option_map living_of) refl c is is) id past

  term_reaped : (term : List ℕ → Option ℕ) (id : List ℕ) → child id ≡ option_map living_of (child_of id past)
      → term id ≡ term_of past (child_of id past) → cond (same_id id i && is_numbered n (child i)) None (term id)
      ≡ term_of (Reaped i n status ∷ past) (left_if left (child_of id past))
  term_reaped term id = by_child (λ x o. child x ≡ option_map living_of o → term x ≡ term_of past o → cond
      (same_id x i && is_numbered n (child i)) None (term x) ≡ term_of (Reaped i n status ∷ past) (left_if left o))
      (λ x is told. ap (cond (same_id x i && is_numbered n (child i)) None) told
      ∙ none_both (same_id x i && is_numbered n (child i)))
      (λ c is told. reaped (term c.id) (term_of (Reaped i n status ∷ past)) refl c is
      (told ∙ sym (ap least_term (spell_still c (Reaped i n status) past refl)))) id past

pub child_step : (child : List ℕ → Option UnreapedChild) (happening : Event) (id : List ℕ) (past : List Event)
    → ((i : List ℕ) → child i ≡ option_map living_of (child_of i past))
    → is_lone (is_child_of id) (unreaped_children past)
    ≡ true → child_after (table_of past) child happening id ≡ option_map living_of (child_of id (happening ∷ past))
child_step child (Birth i n) id past children lone = split (same_id id i) where
  split : (b : Bool) → cond b (Some (record { number = n; act = act_of i (table_of past) })) (child id)
      ≡ option_map living_of (cond b (Some (newborn i n past)) (child_of id past))
  split true = refl
  split false = children id
child_step child (Reaped i n status) id past children lone = child_reaped i n status past child id (children id)
    ∙ sym
    (ap (option_map living_of) (lone_left (is_child_of id) (λ c. not (is_child i n c)) (unreaped_children past) lone))
child_step child _ id past children lone = children id

-- a happening that does not change the spells does not change the times of their TERMs
term_still : (happening : Event) (past : List Event) → is_still happening ≡ true → (o : Option Child)
    → term_of past o ≡ term_of (happening ∷ past) o
term_still happening past still None = refl
term_still happening past still (Some c) = sym (ap least_term (spell_still c happening past still))

term_nudge : (past : List Event) (o : Option Child) → term_of past o ≡ term_of (Nudge ∷ past) o
term_nudge past None = refl
term_nudge past (Some c) = sym (ap least_term (spell_nudge c past))

term_birth : (i : List ℕ) (n : ℕ) (past : List Event) (id : List ℕ) → same_id id i ≡ false
    → term_of past (child_of id past) ≡ term_of (Birth i n ∷ past) (child_of id past)
term_birth i n past id =
    by_child (λ x o. same_id x i ≡ false → term_of past o ≡ term_of (Birth i n ∷ past) o) (λ x differ. refl)
    (λ c differ. sym (ap least_term (spell_birth c i n past ∙ ap (λ b. cond b [] (spell_hits c past)) differ))) id past

-- a new stage or table ends the spells of the children that may live in it
spared : (table : List Entry) (stage : Option Stage) (child : List ℕ → Option UnreapedChild) (term : List ℕ → Option ℕ)
    (c : Child) (hits after : List Signal) → child c.id ≡ Some (living_of c) → term c.id ≡ least_term hits
    → after ≡ cond (not (may_live (entry_of c.id table) c.act stage)) hits []
    → cond (child_may_live table stage child c.id) None (term c.id) ≡ least_term after
spared table stage child term c hits after is told ends =
    ap (λ o. cond (option_map_or (λ living. may_live (entry_of c.id table) living.act stage) o false) None (term c.id))
    is ∙ ap (cond live None) told
    ∙ split live ∙ sym (ap least_term ends)
  where
    live : Bool
    live = may_live (entry_of c.id table) c.act stage

    split : (b : Bool) → cond b None (least_term hits) ≡ least_term (cond (not b) hits [])
    split true = refl
    split false = refl

term_table : (table : List Entry) (past : List Event) (child : List ℕ → Option UnreapedChild) (term : List ℕ → Option ℕ)
    (id : List ℕ) → child id ≡ option_map living_of (child_of id past) → term id ≡ term_of past (child_of id past)
    → cond (child_may_live table (stage_of past) child id) None (term id)
    ≡ term_of (NewTable table ∷ past) (child_of id past)
term_table table past child term id = by_child (λ x o. child x ≡ option_map living_of o → term x ≡ term_of past o
    → cond (child_may_live table (stage_of past) child x) None (term x) ≡ term_of (NewTable table ∷ past) o)
    (λ x is told. ap (cond (child_may_live table (stage_of past) child x) None) told
    ∙ none_both (child_may_live table (stage_of past) child x))
    (λ c is told. spared table (stage_of past) child term c (spell_hits c past)
    (spell_hits c (NewTable table ∷ past)) is told (spell_table c table past)) id past

term_enter : (stage : Stage) (grace : ℕ) (past : List Event) (child : List ℕ → Option UnreapedChild)
    (term : List ℕ → Option ℕ) (id : List ℕ) → child id ≡ option_map living_of (child_of id past)
    → term id ≡ term_of past (child_of id past)
    → cond (child_may_live (table_of past) (Some stage) child id) None (term id)
    ≡ term_of (Enter stage grace ∷ past) (child_of id past)
term_enter stage grace past child term id = by_child (λ x o. child x ≡ option_map living_of o → term x ≡ term_of past o
    → cond (child_may_live (table_of past) (Some stage) child x) None (term x) ≡ term_of (Enter stage grace ∷ past) o)
    (λ x is told. ap (cond (child_may_live (table_of past) (Some stage) child x) None) told
    ∙ none_both (child_may_live (table_of past) (Some stage) child x))
    (λ c is told. spared (table_of past) (Some stage) child term c (spell_hits c past)
    (spell_hits c (Enter stage grace ∷ past)) is told (spell_enter c stage grace past)) id past

-- a Told adds the TERMs under way to the spell of the id's child, if the child is excluded
module _ (i : List ℕ) (past : List Event) (child : List ℕ → Option UnreapedChild) (is_sent : List ℕ → Bool)
    (term : List ℕ → Option ℕ) where
  abbrev tells : Bool
  tells = is_sent i && is_child_excluded (table_of past) (stage_of past) child i

  told_none : (x : List ℕ) → child x ≡ None → term x ≡ None
      → cond (same_id x i && tells) (Some (earliest (time_of past) (term i))) (term x) ≡ None
  told_none x is told = split (same_id x i) refl where
    judged : same_id x i ≡ true → tells ≡ false
    judged same = ap (λ o. is_sent i && option_map_or (λ living. not (may_live (entry_of i (table_of past)) living.act
        (stage_of past))) o false) (ap child (sym (same_id-is x i same)) ∙ is) ∙ and_false (is_sent i)

    split : (b : Bool) → same_id x i ≡ b → cond (b && tells) (Some (earliest (time_of past) (term i))) (term x) ≡ None
    split true same = ap (λ b. cond b (Some (earliest (time_of past) (term i))) (term x)) (judged same) ∙ told
    split false differ = told

  told_some : (c : Child) → child c.id ≡ Some (living_of c) → term c.id ≡ least_term (spell_hits c past)
      → is_sent c.id ≡ has_sent c.id past → cond (same_id c.id i && tells) (Some (earliest (time_of past) (term i)))
      (term c.id) ≡ least_term (spell_hits c (Told i ∷ past))
  told_some c is told sent = split (same_id c.id i) refl ∙ sym (ap least_term (spell_told c i past)) where
    least : Option ℕ
    least = least_term (spell_hits c past)

    more : List Signal
    more = map (told_at (time_of past)) (untold_hits c.id past) ++ spell_hits c past

    judged : same_id c.id i ≡ true → is_child_excluded (table_of past) (stage_of past) child i ≡ is_excluded past c
    judged same =
        ap (λ o. option_map_or (λ living. not (may_live (entry_of i (table_of past)) living.act (stage_of past))) o
        false) (ap child (sym (same_id-is c.id i same)) ∙ is)
        ∙ ap (λ x. not (may_live (entry_of x (table_of past)) c.act (stage_of past))) (sym (same_id-is c.id i same))

    excluded : (e : Bool) → cond (has_sent c.id past && e) (Some (earliest (time_of past) least)) least
        ≡ least_term (cond e more (spell_hits c past))
    excluded true = ap (λ b. cond b (Some (earliest (time_of past) least)) least) (and_true (has_sent c.id past))
        ∙ sym (told_terms (time_of past) (untold_hits c.id past) (spell_hits c past))
    excluded false = ap (λ b. cond b (Some (earliest (time_of past) least)) least) (and_false (has_sent c.id past))

    split : (b : Bool) → same_id c.id i ≡ b → cond (b && tells) (Some (earliest (time_of past) (term i))) (term c.id)
        ≡ least_term (cond (b && is_excluded past c) more (spell_hits c past))
    split true same =
        let own : c.id ≡ i = same_id-is c.id i same in
        ap (λ s. cond (s && is_child_excluded (table_of past) (stage_of past) child i)
        (Some (earliest (time_of past) (term i)))
        (term c.id)) (ap is_sent (sym own) ∙ sent)
        ∙ ap (λ e. cond (has_sent c.id past && e) (Some (earliest (time_of past) (term i))) (term c.id)) (judged same)
        ∙ ap (λ t. cond (has_sent c.id past && is_excluded past c) (Some (earliest (time_of past) t)) (term c.id))
        (ap term (sym own) ∙ told)
        ∙ ap (λ t. cond (has_sent c.id past && is_excluded past c) (Some (earliest (time_of past) least)) t) told
        ∙ excluded (is_excluded past c)
    split false differ = told

  term_told : (id : List ℕ) → child id ≡ option_map living_of (child_of id past)
      → term id ≡ term_of past (child_of id past) → is_sent id ≡ has_sent id past → cond (same_id id i && tells)
      (Some (earliest (time_of past) (term i))) (term id) ≡ term_of (Told i ∷ past) (child_of id past)
  term_told id = by_child (λ x o. child x ≡ option_map living_of o → term x ≡ term_of past o → is_sent x ≡ has_sent x
      past → cond (same_id x i && tells) (Some (earliest (time_of past) (term i))) (term x) ≡ term_of (Told i ∷ past) o)
      (λ x is told sent. told_none x is told) told_some id past

pub term_step : (child : List ℕ → Option UnreapedChild) (is_sent : List ℕ → Bool) (term : List ℕ → Option ℕ)
    (happening : Event) (id : List ℕ) (past : List Event) → child id ≡ option_map living_of (child_of id past)
    → is_sent id ≡ has_sent id past → term id ≡ term_of past (child_of id past)
    → is_lone (is_child_of id) (unreaped_children past) ≡ true → term_after (table_of past) (stage_of past)
    (time_of past) child is_sent term happening id ≡ term_of (happening ∷ past) (child_of id (happening ∷ past))
term_step child is_sent term (Birth i n) id past is sent told lone = split (same_id id i) refl where
  own : Child
  own = newborn i n past

  split : (b : Bool) → same_id id i ≡ b
      → cond b None (term id) ≡ term_of (Birth i n ∷ past) (cond b (Some own) (child_of id past))
  split true same =
      sym (ap least_term (spell_birth own i n past ∙ ap (λ b. cond b [] (spell_hits own past)) (same_id-self i)))
  split false differ = told ∙ term_birth i n past id differ
term_step child is_sent term (Reaped i n status) id past is sent told lone =
    term_reaped i n status past child term id is told ∙ sym (ap (term_of (Reaped i n status ∷ past))
    (lone_left (is_child_of id) (λ c. not (is_child i n c)) (unreaped_children past) lone))
term_step child is_sent term (Told i) id past is sent told lone = term_told i past child is_sent term id is told sent
term_step child is_sent term (NewTable table) id past is sent told lone = term_table table past child term id is told
term_step child is_sent term (Enter stage grace) id past is sent told lone =
    term_enter stage grace past child term id is told
term_step child is_sent term Nudge id past is sent told lone = told ∙ term_nudge past (child_of id past)
term_step child is_sent term happening id past is sent told lone =
    told ∙ term_still happening past refl (child_of id past)

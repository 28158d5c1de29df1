-- Why each omission keeps two traces alike: a look that found nothing, a reading, a round.
use Rattle.trace_log_wrappers.proofs.BriefWords.{◌≡◌, refl, ◌∙◌, ap, ℕ, Bool, true, false, not, ◌&&◌, cond, max, min}
use Rattle.trace_log_wrappers.proofs.BriefWords.{List, [], ◌∷◌}
use Rattle.trace_log_wrappers.proofs.BriefWords.{◌++◌, filter, map, None, arith, list_any, option_map_or, OrderKind}
use Rattle.trace_log_wrappers.proofs.BriefWords.{Look, same_id}
use Rattle.trace_log_wrappers.proofs.BriefWords.{Asked, Still, Told, Clock, Nudge, Goal, Event, time_of, Child}
use Rattle.trace_log_wrappers.proofs.BriefWords.{is_child_of}
use Rattle.trace_log_wrappers.proofs.BriefWords.{unreaped_children, kept_children, known_children, open_of, undone_of}
use Rattle.trace_log_wrappers.proofs.BriefWords.{is_untold}
use Rattle.trace_log_wrappers.proofs.BriefWords.{Open, open_orders, is_excluded, untold_hits, told_at, spell_hits}
use Rattle.trace_log_wrappers.proofs.BriefWords.{may_come}
use Rattle.trace_log_wrappers.proofs.BriefWords.{is_sound, same_id-is, same_id-self, filter_within, undone_is_open}
use Rattle.trace_log_wrappers.proofs.BriefWords.{open_listed}
use Rattle.trace_log_wrappers.proofs.BriefWords.{told_same, told_other, told_known, asked_free, free_told, sound_holds}
use Rattle.trace_log_wrappers.proofs.BriefWords.{kept_known}
use Rattle.trace_log_wrappers.proofs.BriefWords.{sound_step, hits_told, missed_none, spell_still, missed_still}
use Rattle.trace_log_wrappers.proofs.BriefWords.{spell_nudge}
use Rattle.trace_log_wrappers.proofs.BriefWords.{spell_told, missed_told, misses_told}
use Rattle.trace_log_wrappers.proofs.Alike.{Alike}

-- the id of a look that may be ordered has no open order and no act that is not told, so its known children are its
-- unreaped ones
pub record Free (id : List ℕ) (past : List Event) : Type 0 where
  pub order : open_of id past ≡ None
  pub undone : undone_of id past ≡ None
  pub untold : is_untold id past ≡ false
  pub known : filter (is_child_of id) (unreaped_children past) ≡ filter (is_child_of id) (known_children past)
  pub kept : filter (is_child_of id) (unreaped_children past) ≡ filter (is_child_of id) (kept_children past)

pub undone_none : (id : List ℕ) (past : List Event) → open_of id past ≡ None → undone_of id past ≡ None
undone_none id past free = grind (arith, undone_is_open)

look_free : (goal : Goal) (id : List ℕ) (past : List Event) → is_sound goal past ≡ true → open_of id past ≡ None
    → Free id past
look_free goal id past sound free = grind (arith, free_told, sound_holds, told_known, undone_none, kept_known)

-- removing the order of an id that has none changes nothing
filter_all : (id : List ℕ) (orders : List Open) → list_any (λ order. same_id id order.id && true) orders ≡ false
    → filter (λ (order : Open). not (same_id id order.id)) orders ≡ orders
filter_all id [] h = refl
filter_all id (order ∷ orders) h = grind (arith, filter_all id orders)

look_listed : (id : List ℕ) (past : List Event) → open_of id past ≡ None
    → open_orders (Told id ∷ Still id ∷ Asked id Look ∷ past) ≡ open_orders past
look_listed id past free = rw (same_id-self id)
    (filter_within others others (λ order own. own) (open_orders past) ∙ filter_all id (open_orders past)
    (open_listed (λ ask. true) id past ∙ ap (λ o. option_map_or (λ (ask : OrderKind). true) o false) free)) where
      others : Open → Bool
      others order = not (same_id id order.id)

look_spell : (id : List ℕ) (past : List Event) (child : Child) → (same_id child.id id ≡ true → untold_hits child.id past
    ≡ []) → spell_hits child (Told id ∷ Still id ∷ Asked id Look ∷ past) ≡ spell_hits child past
look_spell id past child free = spell_told child id (Still id ∷ Asked id Look ∷ past)
    ∙ split (same_id child.id id) (is_excluded past child) free ∙ quiet where
      quiet : spell_hits child (Still id ∷ Asked id Look ∷ past) ≡ spell_hits child past
      quiet = spell_still child (Still id) (Asked id Look ∷ past) refl ∙ spell_still child (Asked id Look) past refl

      split : (b c : Bool) → (b ≡ true → untold_hits child.id past ≡ []) → cond (b && c)
          (map (told_at (time_of past)) (untold_hits child.id past)
          ++ spell_hits child (Still id ∷ Asked id Look ∷ past))
          (spell_hits child (Still id ∷ Asked id Look ∷ past)) ≡ spell_hits child (Still id ∷ Asked id Look ∷ past)
      split b c free = grind arith

-- a look that found nothing may be omitted with its `told`, if its id had no open order and nothing untold
pub alike_free : (i : List ℕ) (past : List Event) → ((id : List ℕ) → same_id id i ≡ true → Free id past)
    → Alike (Told i ∷ Still i ∷ Asked i Look ∷ past) past
alike_free i past free = grind (
  arith,
  told_same,
  told_other,
  look_listed,
  same_id-self,
  hits_told,
  misses_told,
  look_spell,
  missed_told,
  missed_none,
  missed_still,
)

pub alike_look : (goal : Goal) (i : List ℕ) (past : List Event) → is_sound goal (Told i ∷ Still i ∷ Asked i Look ∷ past)
    ≡ true → (is_sound goal past ≡ true) × Alike (Told i ∷ Still i ∷ Asked i Look ∷ past) past
alike_look goal i past h = (asked.1, alike_free i past free) where
  asked : (may_come goal (Asked i Look) past ≡ true) × (is_sound goal past ≡ true)
  asked = sound_step goal (Asked i Look) past refl (sound_step goal (Still i) (Asked i Look ∷ past) refl
      (sound_step goal (Told i) (Still i ∷ Asked i Look ∷ past) refl h).1).1

  none : open_of i past ≡ None
  none = asked_free goal i Look past asked.0

  free : (id : List ℕ) → same_id id i ≡ true → Free id past
  free id same = look_free goal id past asked.1 (ap (λ x. open_of x past) (same_id-is id i same) ∙ none)

greater : (limit a b c : ℕ) → max (min a limit) (max (min b limit) c) ≡ max (min (max a b) limit) c
greater limit a b c = omega arith

-- of two readings only the greater one needs to be kept
pub alike_readings : (reading before : ℕ) (past : List Event)
    → Alike (Clock reading ∷ Clock before ∷ past) (Clock (max reading before) ∷ past)
alike_readings reading before past = search (greater, spell_still, missed_still)

-- a reading may be placed before a round
pub alike_early : (reading : ℕ) (past : List Event)
    → Alike (Clock reading ∷ Nudge ∷ past) (Nudge ∷ Clock reading ∷ past)
alike_early reading past = search (missed_still)

-- of two rounds only one needs to be kept
pub alike_rounds : (past : List Event) → Alike (Nudge ∷ Nudge ∷ past) (Nudge ∷ past)
alike_rounds past = search (spell_nudge)

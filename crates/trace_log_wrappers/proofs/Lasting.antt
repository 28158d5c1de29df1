-- Values that init reads off the lasting happenings only, that is, without looks, `told`, readings of the clock and
-- rounds.
use Rattle.trace_log_wrappers.proofs.BriefWords.{◌≡◌, refl, ◌∙◌, ap, ℕ, not, ◌&&◌, ◌||◌, List, [], ◌∷◌, filter, arith}
use Rattle.trace_log_wrappers.proofs.BriefWords.{Entry}
use Rattle.trace_log_wrappers.proofs.BriefWords.{Letter, OnCall, Boot, Start, Look, PowerKind, same_id, is_called_by}
use Rattle.trace_log_wrappers.proofs.BriefWords.{is_ondemand}
use Rattle.trace_log_wrappers.proofs.BriefWords.{stays_called, names, same_letter, same_power, NewTable, NotRead, Enter}
use Rattle.trace_log_wrappers.proofs.BriefWords.{Call}
use Rattle.trace_log_wrappers.proofs.BriefWords.{Power, Asked, Settle, Birth, Reaped, Got, Handed, Goal, Event}
use Rattle.trace_log_wrappers.proofs.BriefWords.{table_of, stage_of}
use Rattle.trace_log_wrappers.proofs.BriefWords.{grace_of, is_child, unreaped_children, is_dead, adds_or_changes}
use Rattle.trace_log_wrappers.proofs.BriefWords.{is_asked}
use Rattle.trace_log_wrappers.proofs.BriefWords.{is_called}
use Rattle.trace_log_wrappers.proofs.BriefWords.{starts_in, is_level, goal_of, wants_reexec, wants_reread}
use Rattle.trace_log_wrappers.proofs.BriefWords.{last_requested_level}
use Rattle.trace_log_wrappers.proofs.BriefWords.{is_power_pending}
use Rattle.trace_log_wrappers.proofs.BriefWords.{is_letter_pending, was_booted, removed_ids, is_announced}
use Rattle.trace_log_wrappers.proofs.BriefWords.{lasting_events}
use Rattle.initctl_frame.specs.declared.requests.HeardRequest.TheVariants as got

pub table_lasting : (past : List Event) → table_of past ≡ table_of (lasting_events past)
table_lasting [] = grind arith
table_lasting (happening ∷ past) = grind (arith, table_lasting past)

pub stage_lasting : (past : List Event) → stage_of past ≡ stage_of (lasting_events past)
stage_lasting [] = grind arith
stage_lasting (happening ∷ past) = grind (arith, stage_lasting past)

pub grace_lasting : (past : List Event) → grace_of past ≡ grace_of (lasting_events past)
grace_lasting [] = grind arith
grace_lasting (happening ∷ past) = grind (arith, grace_lasting past)

pub unreaped_lasting : (past : List Event) → unreaped_children past ≡ unreaped_children (lasting_events past)
unreaped_lasting [] = grind (arith, Birth, table_lasting, Reaped, filter, is_child, Asked, Look)
unreaped_lasting (happening ∷ past) =
    grind (arith, unreaped_lasting past, Birth, table_lasting, Reaped, filter, is_child, Asked, Look)

pub dead_lasting : (id : List ℕ) (n : ℕ) (past : List Event) → is_dead id n past ≡ is_dead id n (lasting_events past)
dead_lasting id n [] = grind arith
dead_lasting id n (happening ∷ past) = grind (arith, dead_lasting id n past)

pub asked_lasting : (id : List ℕ) (past : List Event) → is_asked id past ≡ is_asked id (lasting_events past)
asked_lasting id [] = refl
asked_lasting id (Enter stage grace ∷ past) = refl
asked_lasting id (NewTable table ∷ past) = ap (λ before. not (adds_or_changes id table before) && is_asked id past)
    (table_lasting past)
    ∙ ap (λ b. not (adds_or_changes id table (table_of (lasting_events past))) && b) (asked_lasting id past)
asked_lasting id (Asked i Start ∷ past) = ap (λ b. same_id id i || b) (asked_lasting id past)
asked_lasting id (Asked i Look ∷ past) = asked_lasting id past
asked_lasting id (_ ∷ past) = asked_lasting id past

pub called_lasting : (e : Entry) (past : List Event) → is_called e past ≡ is_called e (lasting_events past)
called_lasting e [] = refl
called_lasting e (Enter stage grace ∷ past) = refl
called_lasting e (NewTable table ∷ past) = refl
called_lasting e (Power kind ∷ past) =
    ap (λ now. is_called_by kind e.act && starts_in e now || is_called e past) (stage_lasting past)
    ∙ ap (λ b. is_called_by kind e.act && starts_in e (stage_of (lasting_events past)) || b) (called_lasting e past)
called_lasting e (Call letter ∷ past) = ap (λ now. is_ondemand e.act && names (OnCall letter) e.levels.items
    && starts_in e now || is_called e past) (stage_lasting past) ∙ ap (λ b. is_ondemand e.act && names
    (OnCall letter) e.levels.items && starts_in e (stage_of (lasting_events past)) || b) (called_lasting e past)
called_lasting e (Asked i Start ∷ past) =
    ap (λ b. (stays_called e.act || not (same_id e.id i)) && b) (called_lasting e past)
called_lasting e (Asked i Look ∷ past) = called_lasting e past
called_lasting e (_ ∷ past) = called_lasting e past

pub goal_lasting : (opening : Goal) (past : List Event) → goal_of opening past ≡ goal_of opening (lasting_events past)
goal_lasting opening [] = refl
goal_lasting opening (Got (got.Level l s) ∷ past) = refl
goal_lasting opening (Asked i Look ∷ past) = goal_lasting opening past
goal_lasting opening (_ ∷ past) = goal_lasting opening past

pub reexec_lasting : (past : List Event) → wants_reexec past ≡ wants_reexec (lasting_events past)
reexec_lasting [] = refl
reexec_lasting (Handed how ∷ past) = refl
reexec_lasting (Got got.Reexec ∷ past) = refl
reexec_lasting (Asked i Look ∷ past) = reexec_lasting past
reexec_lasting (_ ∷ past) = reexec_lasting past

pub reread_lasting : (past : List Event) → wants_reread past ≡ wants_reread (lasting_events past)
reread_lasting [] = refl
reread_lasting (NewTable table ∷ past) = refl
reread_lasting (NotRead ∷ past) = refl
reread_lasting (Got got.Reload ∷ past) = refl
reread_lasting (Got (got.Level l s) ∷ past) = ap (λ now. not (is_level l now) || wants_reread past) (stage_lasting past)
    ∙ ap (λ b. not (is_level l (stage_of (lasting_events past))) || b) (reread_lasting past)
reread_lasting (Asked i Look ∷ past) = reread_lasting past
reread_lasting (_ ∷ past) = reread_lasting past

pub heard_lasting : (past : List Event) → last_requested_level past ≡ last_requested_level (lasting_events past)
heard_lasting [] = refl
heard_lasting (Enter stage grace ∷ past) = refl
heard_lasting (Got (got.Level l s) ∷ past) = refl
heard_lasting (Asked i Look ∷ past) = heard_lasting past
heard_lasting (_ ∷ past) = heard_lasting past

pub power_lasting : (kind : PowerKind) (past : List Event)
    → is_power_pending kind past ≡ is_power_pending kind (lasting_events past)
power_lasting kind [] = refl
power_lasting kind (Power k ∷ past) = ap (λ b. not (same_power kind k) && b) (power_lasting kind past)
power_lasting kind (Got (got.Power k) ∷ past) = ap (λ b. same_power kind k || b) (power_lasting kind past)
power_lasting kind (Asked i Look ∷ past) = power_lasting kind past
power_lasting kind (_ ∷ past) = power_lasting kind past

pub letter_lasting : (letter : Letter) (past : List Event)
    → is_letter_pending letter past ≡ is_letter_pending letter (lasting_events past)
letter_lasting letter [] = refl
letter_lasting letter (Call l ∷ past) = ap (λ b. not (same_letter letter l) && b) (letter_lasting letter past)
letter_lasting letter (Got (got.Call l) ∷ past) = ap (λ b. same_letter letter l || b) (letter_lasting letter past)
letter_lasting letter (Asked i Look ∷ past) = letter_lasting letter past
letter_lasting letter (_ ∷ past) = letter_lasting letter past

pub booted_lasting : (past : List Event) → was_booted past ≡ was_booted (lasting_events past)
booted_lasting [] = refl
booted_lasting (Enter Boot grace ∷ past) = refl
booted_lasting (Asked i Look ∷ past) = booted_lasting past
booted_lasting (_ ∷ past) = booted_lasting past

pub announced_lasting : (past : List Event) → is_announced past ≡ is_announced (lasting_events past)
announced_lasting [] = refl
announced_lasting (Settle level ∷ past) = refl
announced_lasting (Enter stage grace ∷ past) = refl
announced_lasting (NewTable table ∷ past) = refl
announced_lasting (Asked i Look ∷ past) = announced_lasting past
announced_lasting (_ ∷ past) = announced_lasting past

pub left_lasting : (past : List Event) → removed_ids past ≡ removed_ids (lasting_events past)
left_lasting [] = refl
left_lasting (NewTable table ∷ past) = grind (arith, table_lasting, left_lasting past)
left_lasting (Asked i Look ∷ past) = left_lasting past
left_lasting (_ ∷ past) = left_lasting past

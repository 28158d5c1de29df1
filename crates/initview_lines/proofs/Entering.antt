-- After init reads an inittab, its first due step enters the stage on the way to a requested level.
use Rattle.initview_lines.proofs.CommonWords.{◌≡◌, refl, ap, ℕ, true, false, List, [], Option, Some, None, Level, Entry}
use Rattle.initview_lines.proofs.CommonWords.{Stage, Event, is_quiet, stage_of, entered_by, next_stage, read_again}
use Rattle.trace_events.specs.declared.steps.Goal.{Goal}
use Rattle.trace_events.specs.declared.steps.Step.TheVariants.{Enter}
use Rattle.trace_events.specs.Due.{due, due_first, first, enter_level}
use Rattle.trace_events.specs.Wishes.{level_wish, wants_reexec, wants_reread}

same_enter : (k l : Stage) (m n : ℕ) → ◌≡◌ {A = Option (Stage × ℕ)} (Some (k, m)) (Some (l, n)) → Enter k m ≡ Enter l n
same_enter k l m n is =
    let pair : ◌≡◌ {A = Stage × ℕ} (k, m) (l, n) = cc in
    let one : k ≡ l = ap (λ (p : Stage × ℕ). p.0) pair in
    let two : m ≡ n = ap (λ (p : Stage × ℕ). p.1) pair in
    rw (one, two) refl

begun : (goal : Goal) (stage : Option Stage) (read : List Event) (now : Stage) → stage ≡ Some now
    → due_first goal stage read ≡ []
begun goal stage read now at = rw at refl

entering : (goal : Goal) (read : List Event) (now next : Stage) (seconds : ℕ) → stage_of read ≡ Some now
    → is_quiet read ≡ true → wants_reexec read ≡ false → wants_reread read ≡ false
    → next_stage read ≡ Some (next, seconds) → first (due goal read) ≡ Enter next seconds
entering goal read now next seconds at quiet calm is_read is = by (level_wish read) refl is
  where
    by : (wish : Option Goal) → level_wish read ≡ wish → entered_by (enter_level wish read) ≡ Some (next, seconds)
        → first (due goal read) ≡ Enter next seconds
    by None none is = absurd (cc)
    by (Some wish) asked is =
        rw (begun goal (stage_of read) read now at, quiet, calm, is_read, asked) (same_enter _ next _ seconds is)

pub reload_enters : (goal : Goal) (table : List Entry) (level : Option Level) (past : List Event) (now next : Stage)
    (seconds : ℕ) → stage_of past ≡ Some now → is_quiet past ≡ true → wants_reexec past ≡ false → next_stage (read_again
    table level past) ≡ Some (next, seconds) → first (due goal (read_again table level past)) ≡ Enter next seconds
reload_enters goal table None past now next seconds at quiet calm is =
    entering goal (read_again table None past) now next seconds at quiet calm refl is
reload_enters goal table (Some level) past now next seconds at quiet calm is =
    entering goal (read_again table (Some level) past) now next seconds at quiet calm refl is

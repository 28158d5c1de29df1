-- What the trace files contain after a run was killed.
use Rattle.std.proofs.Common.{◌≡◌, refl, sym, ap, ◌∙◌, subst, true, false, ◌&&◌, ℕ, List, [], ◌∷◌, ◌++◌, reverse}
use Rattle.std.proofs.lemmas.Bool.{and_from, and_parts}
use Rattle.std.proofs.lemmas.List.{reverse-append, reverse-reverse}
use Rattle.std.proofs.lemmas.List.Folds.{list_all-append}
use Rattle.std.specs.List.{list_all}
use Rattle.trace_events.specs.declared.steps.Goal.{Goal}
use Rattle.trace_events.specs.Event.{Event}
use Rattle.trace_text.specs.Lines.{trace_text}
use Rattle.host_calls.specs.Calls.{HostCall}
use Rattle.supervisor.specs.Crashes.{LeftByCrash, is_of_idle_look}
use Rattle.supervisor.proofs.Crashes.{leaves_in}
use Rattle.trace_files.specs.Filed.{HasText}
use Rattle.trace_files.specs.Left.{LeavesFiles}

all_turned : (held : List Event) → list_all is_of_idle_look held ≡ true → list_all is_of_idle_look (reverse held) ≡ true
all_turned [] idle = refl
all_turned (h ∷ held) idle =
    let parts = and_parts (is_of_idle_look h) (list_all is_of_idle_look held) idle in
    ap (list_all is_of_idle_look) (reverse-append (h ∷ []) held)
    ∙ list_all-append is_of_idle_look (reverse held) (h ∷ [])
    ∙ and_from (list_all is_of_idle_look (reverse held)) (is_of_idle_look h && true) (all_turned held parts.1)
    (and_from (is_of_idle_look h) true parts.0 refl)

module _ (call : HostCall) (goal : Goal) (world : List Event) (bytes : List ℕ) where
  by : (held past : List Event) → list_all is_of_idle_look held ≡ true → trace_text (reverse past) ≡ bytes
      → (bytes ≡ [] → ⊥) → LeftByCrash call goal (held ++ past) world → LeavesFiles call goal bytes world
  by held [] idle text some left = absurd (some (sym text))
  by held (last ∷ past) idle text some left = record {
    trace = last ∷ past;
    text = text;
    left = leaves_in call goal held past world last idle left;
  }

  pub files_left : (trace : List Event) (unwritten : List ℕ) → HasText false trace bytes unwritten → (bytes ≡ [] → ⊥)
      → LeftByCrash call goal (reverse trace) world → LeavesFiles call goal bytes world
  files_left trace unwritten has some left =
      let lacks = has.lacks refl in
      by (reverse lacks.held) (reverse lacks.written) (all_turned lacks.held lacks.idle)
      (ap trace_text (reverse-reverse lacks.written) ∙ lacks.of_files) some
      (subst (λ past. LeftByCrash call goal past world)
      (ap reverse (sym lacks.all) ∙ reverse-append lacks.written lacks.held) left)

-- What a brief log has written after each happening and at its end.
use Rattle.trace_log_wrappers.proofs.Words.{◌≡◌, refl, sym, ◌∙◌, ap, ap₂, subst, ℕ, Bool, true, false, List, ◌∷◌, ◌++◌}
use Rattle.trace_log_wrappers.proofs.Words.{reverse, Option, Some, None, append_assoc, reverse-append, reverse-reverse}
use Rattle.trace_log_wrappers.proofs.Words.{Event, HeldBack, brief_of, look_events, round_events, reading_events}
use Rattle.trace_log_wrappers.proofs.Words.{held_events, held_back, written_of, Holds, next_held, newly_by}
use Rattle.trace_log_wrappers.proofs.Words.{newly_written, held_first, newly_first_by, newly_first}
use Rattle.trace_events.specs.declared.happenings.Happening.TheVariants.{Clock, Nudge}
use Rattle.trace_log_wrappers.specs.declared.held.HeldLook.{HeldLook}
use Rattle.trace_log_wrappers.specs.declared.held.HeldLook.TheVariants.{Ordered, FoundNothing}
use Rattle.trace_log_wrappers.proofs.HoldLemmas.{holds_next}

turned : (reading : Option ℕ) (round : Bool) (look : Option HeldLook) → reverse (reading_events reading ++ round_events
    round ++ reverse (look_events look)) ≡ look_events look ++ round_events round ++ reading_events reading
turned None false None = refl
turned None false (Some (Ordered i)) = refl
turned None false (Some (FoundNothing i)) = refl
turned None true None = refl
turned None true (Some (Ordered i)) = refl
turned None true (Some (FoundNothing i)) = refl
turned (Some r) false None = refl
turned (Some r) false (Some (Ordered i)) = refl
turned (Some r) false (Some (FoundNothing i)) = refl
turned (Some r) true None = refl
turned (Some r) true (Some (Ordered i)) = refl
turned (Some r) true (Some (FoundNothing i)) = refl

held_turned : (held : HeldBack) → reverse (held_first held) ≡ held_events held
held_turned held = turned held.reading held.round held.look

one_turned : (happening : Event) → reverse (written_of happening) ≡ written_of happening
one_turned (Clock reading) = refl
one_turned Nudge = refl
one_turned _ = refl

firsts_turned : (happening : Event) (held : HeldBack) (o : Option HeldBack)
    → reverse (newly_first_by happening held o) ≡ newly_by happening held o
firsts_turned happening held None = reverse-append (held_first held) (written_of happening)
    ∙ ap₂ (λ xs ys. xs ++ ys) (one_turned happening) (held_turned held)
firsts_turned happening held (Some next) = refl

written_turned : (happening : Event) (held : HeldBack) (before : List Event)
    → reverse (before ++ newly_first happening held) ≡ newly_written happening held ++ reverse before
written_turned happening held before = reverse-append before (newly_first happening held)
    ∙ ap (λ xs. xs ++ reverse before) (firsts_turned happening held (held_back happening held))

pub kept_next : (happening : Event) (held : HeldBack) (before trace : List Event) → Holds held (reverse before) trace
    → Holds (next_held happening held) (reverse (before ++ newly_first happening held)) (happening ∷ trace)
kept_next happening held before trace holds =
    let P : List Event → Type 0 = λ written. Holds (next_held happening held) written (happening ∷ trace) in
    subst P (sym (written_turned happening held before)) (holds_next happening held (reverse before) trace holds)

pub kept_end : (held : HeldBack) (before trace : List Event) → Holds held (reverse before) trace
    → before ++ held_first held ≡ reverse (brief_of trace)
kept_end held before trace holds =
    sym (reverse-reverse (before ++ held_first held))
    ∙ ap reverse
    (reverse-append before (held_first held) ∙ ap (λ xs. xs ++ reverse before) (held_turned held) ∙ holds.brief)

-- what was written in part is a prefix of the brief form, with the rest after it
module _ (before first rest more trace : List Event) (all : first ++ rest ≡ more) where
  joined : (before ++ first) ++ rest ≡ before ++ more
  joined = append_assoc before first rest ∙ ap (λ xs. before ++ xs) all

  pub kept_part : (held : HeldBack) → more ≡ held_first held → Holds held (reverse before) trace
      → (before ++ first) ++ rest ≡ reverse (brief_of trace)
  kept_part held is holds = joined ∙ ap (λ xs. before ++ xs) is ∙ kept_end held before trace holds

  pub kept_front : (happening : Event) (held : HeldBack) → more ≡ newly_first happening held
      → Holds held (reverse before) trace
      → (before ++ first) ++ (rest ++ reverse (held_events (next_held happening held)))
      ≡ reverse (brief_of (happening ∷ trace))
  kept_front happening held is holds =
      sym (append_assoc (before ++ first) rest (reverse (held_events (next_held happening held))))
      ∙ ap (λ xs. xs ++ reverse (held_events (next_held happening held))) (joined ∙ ap (λ xs. before ++ xs) is)
      ∙ ap (λ xs. xs ++ reverse (held_events (next_held happening held)))
      (sym (reverse-reverse (before ++ newly_first happening held)))
      ∙ sym (reverse-append (held_events (next_held happening held)) (reverse (before ++ newly_first happening held)))
      ∙ ap reverse (kept_next happening held before trace holds).brief

-- One more happening is seen by the view and by the other observer, or the whole text is taken.
use Rattle.trace_view.proofs.Words.{◌≡◌, ℕ, ◌+◌, ◌^◌, ◌<◌, ◌≤◌, List, [], ◌∷◌, ◌++◌, length, reverse, Option, Some}
use Rattle.trace_view.proofs.Words.{None, sym, subst, arith, Stage, Event, stage_of, capped, past_push, following_line}
use Rattle.trace_view.proofs.Words.{HasSeenText, IsSeeing, Viewed, TextState, ViewGoesOn, IsAt}
use Rattle.trace_view.proofs.Lining.{line_here}
use Rattle.trace_view.proofs.SeenTexts.{seen_at}

module _ {S : Type 0} (has : S → List Event → Type 0) where
  pub some_seen : (next : Option Event) (h : Event) (old new : TextState) (before after : S) (stage : Option Stage)
      (line : ℕ) (text : List ℕ) → length text < 2 ^ 64 → next ≡ Some h → old.stop ≡ None
      → length new.reading.over < length old.reading.over → line ≡ capped (old.reading.lines + 1) → ((past : List Event)
      → Viewed old.viewing past → stage ≡ stage_of past) → ((trace : List Event) → ViewGoesOn next old new trace text)
      → ((past : List Event) → Viewed new.viewing (h ∷ past) → stage ≡ stage_of past → line ≡ following_line past
      → has before past → has after (h ∷ past)) → IsSeeing has (record { viewing = old; seen = before }) text
      → IsSeeing has (record { viewing = new; seen = after }) text
  some_seen next h old new before after stage line text small is went shorter at_line stages goes sees at =
      let P : Option Event → Type 0 = λ n. ViewGoesOn n old new at.0 text in
      let some : 1 ≤ length old.reading.over = omega (arith, shorter) in
      let on : IsAt new (at.0 ++ h ∷ []) text = subst P is (goes at.0) at.1 in
      let viewed : Viewed new.viewing (h ∷ reverse at.0) =
      subst (Viewed new.viewing) (past_push at.0 h) (seen_at new.stop new (at.0 ++ h ∷ []) text on) in (
        at.0 ++ h ∷ [],
        on,
        subst (has after) (sym (past_push at.0 h))
            (sees (reverse at.0) viewed (stages (reverse at.0) (seen_at old.stop old at.0 text at.1))
            (line_here old at.0 text line small went some at_line at.1) at.2),
      )

  pub none_seen : (next : Option Event) (old new : TextState) (seen : S) (text : List ℕ) → next ≡ None
      → ((trace : List Event) → ViewGoesOn next old new trace text) → IsSeeing has
      (record { viewing = old; seen = seen }) text → HasSeenText has (record { viewing = new; seen = seen }) text
  none_seen next old new seen text is goes at =
      let P : Option Event → Type 0 = λ n. ViewGoesOn n old new at.0 text in
      (at.0, subst P is (goes at.0) at.1, at.2)

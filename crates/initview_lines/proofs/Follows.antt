-- Lemmas on adding the lines for one more happening, or reaching the end of the text.
use Rattle.initview_lines.proofs.CommonWords.{◌≡◌, refl, ℕ, Bool, true, false, cond, List, [], ◌∷◌, ◌++◌, reverse}
use Rattle.initview_lines.proofs.CommonWords.{Option, Some, None, sym, ap, ◌∙◌, subst, Event, past_push, Viewed}
use Rattle.initview_lines.proofs.CommonWords.{TextState, ViewGoesOn, IsAt, seen_at, Line, follow_in, happening_lines}
use Rattle.initview_lines.proofs.CommonWords.{IsFollowingText, HasFollowedText, FollowsText}
use Rattle.std.proofs.Common.{append_assoc}

pub some_said : (next : Option Event) (h : Event) (old new : TextState) (past_lines before after : List Line)
    (text : List ℕ)
    → next ≡ Some h → ((trace : List Event) → ViewGoesOn next old new trace text)
    → ((past : List Event) → Viewed new.viewing (h ∷ past) → after ≡ before ++ happening_lines h past)
    → IsFollowingText old (past_lines ++ before) text → IsFollowingText new (past_lines ++ after) text
some_said next h old new past_lines before after text is goes lines at =
    let P : Option Event → Type 0 = λ n. ViewGoesOn n old new at.0 text in
    let on : IsAt new (at.0 ++ h ∷ []) text = subst P is (goes at.0) at.1 in (
      at.0 ++ h ∷ [],
      on,
      ap (λ l. past_lines ++ l) (lines (reverse at.0)
          (subst (λ past. Viewed new.viewing past) (past_push at.0 h) (seen_at new.stop new (at.0 ++ h ∷ []) text on)))
          ∙ sym (append_assoc past_lines before (happening_lines h (reverse at.0)))
          ∙ ap (λ l. l ++ happening_lines h (reverse at.0)) at.2
          ∙ sym (ap follow_in (past_push at.0 h)),
    )

pub none_said : (next : Option Event) (old new : TextState) (past_lines : List Line) (text : List ℕ) → next ≡ None
    → ((trace : List Event) → ViewGoesOn next old new trace text) → IsFollowingText old past_lines text
    → HasFollowedText new past_lines text
none_said next old new past_lines text is goes at =
    let P : Option Event → Type 0 = λ n. ViewGoesOn n old new at.0 text in
    (at.0, subst P is (goes at.0) at.1, at.2)

-- the lines for one more happening were added
pub more_said : (more : Bool) (old new : TextState) (before after : List Line) (text : List ℕ) → more ≡ true
    → FollowsText more old before new after text → IsFollowingText old before text → IsFollowingText new after text
more_said true old new before after text is on = on
more_said false old new before after text is on = absurd (cc)

pub all_said : (more : Bool) (old new : TextState) (before after : List Line) (text : List ℕ) → more ≡ false
    → FollowsText more old before new after text → IsFollowingText old before text → HasFollowedText new after text
all_said false old new before after text is on = on
all_said true old new before after text is on = absurd (cc)

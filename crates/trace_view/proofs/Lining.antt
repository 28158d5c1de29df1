-- The remembered lines after one more happening.
use Rattle.trace_view.proofs.Words.{◌≡◌, ℕ, ◌+◌, ◌^◌, ◌<◌, ◌≤◌, List, ◌∷◌, length, reverse, Option, None, sym, ap, ◌∙◌}
use Rattle.trace_view.proofs.Words.{arith, reverse-reverse, newlines, Stage, Event, Entry, table_of, stage_of}
use Rattle.trace_view.proofs.Words.{trace_text, at, capped, LinesState, Lined, line_after, kinds_of, names, born_in}
use Rattle.trace_view.proofs.Words.{early_in, early_line, unborn_in, reaped_in, ordered_in, held_in, last_of, TextState}
use Rattle.trace_view.proofs.Words.{IsAt}
use Rattle.trace_view.specs.LastLines.{following_line}
use Rattle.trace_view.proofs.SeenTexts.{at_none, next_line}

-- the line remembered for an id, after one more happening
one_more : (about : Event → Option (List ℕ)) (happening : Event) (past : List Event) (line : ℕ) (id : List ℕ)
    (before after : Option ℕ) → line ≡ following_line past → before ≡ last_of about id past
    → after ≡ line_after (names id (about happening)) line before → after ≡ last_of about id (happening ∷ past)
one_more about happening past line id before after at so is = grind arith

early_more : (happening : Event) (past : List Event) (table : List Entry) (line : ℕ) (id : List ℕ) (before
    after : Option ℕ) → table ≡ table_of (happening ∷ past) → line ≡ following_line past → before ≡ early_line id past
    → after ≡ line_after (names id (early_in table happening)) line before → after ≡ early_line id (happening ∷ past)
early_more happening past table line id before after in_force at so is =
    is ∙ ap (λ t. line_after (names id (early_in t happening)) line before) in_force
    ∙ ap (λ l. line_after (names id (early_in (table_of (happening ∷ past)) happening)) l before) at
    ∙ ap (line_after (names id (early_in (table_of (happening ∷ past)) happening)) (following_line past)) so

pub lined_more : (happening : Event) (past : List Event) (old new : LinesState) (table : List Entry)
    (stage : Option Stage) (line : ℕ) → ((so_far : List Event) → stage ≡ stage_of so_far → line ≡ following_line so_far
    → old.kinds ≡ kinds_of so_far → new.kinds ≡ kinds_of (happening ∷ so_far))
    → ((id : List ℕ) → at id new.births ≡ line_after (names id (born_in happening)) line (at id old.births))
    → ((id : List ℕ) → at id new.early ≡ line_after (names id (early_in table happening)) line (at id old.early))
    → ((id : List ℕ) → at id new.failures ≡ line_after (names id (unborn_in happening)) line (at id old.failures))
    → ((id : List ℕ) → at id new.reapings ≡ line_after (names id (reaped_in happening)) line (at id old.reapings))
    → ((id : List ℕ) → at id new.orders ≡ line_after (names id (ordered_in happening)) line (at id old.orders)) → ((id :
    List ℕ) → at id new.holds ≡ line_after (names id (held_in happening)) line (at id old.holds)) → table ≡ table_of
    (happening ∷ past) → stage ≡ stage_of past → line ≡ following_line past → Lined old past
    → Lined new (happening ∷ past)
lined_more happening past old new table stage line kinds births early failures reapings orders holds in_force on is
    lined = record {
      kinds = kinds past on is lined.kinds;
      births =
          λ id. one_more born_in happening past line id (at id old.births) (at id new.births) is (lined.births id)
          (births id);
      early =
          λ id. early_more happening past table line id (at id old.early) (at id new.early) in_force is (lined.early id)
          (early id);
      failures = λ id. one_more unborn_in happening past line id (at id old.failures) (at id new.failures) is
          (lined.failures id) (failures id);
      reapings = λ id. one_more reaped_in happening past line id (at id old.reapings) (at id new.reapings) is
          (lined.reapings id) (reapings id);
      orders =
          λ id. one_more ordered_in happening past line id (at id old.orders) (at id new.orders) is (lined.orders id)
          (orders id);
      holds =
          λ id. one_more held_in happening past line id (at id old.holds) (at id new.holds) is (lined.holds id)
          (holds id);
    }

-- the line at which the next happening begins
line_is : (trace : List Event) → newlines (trace_text trace) + 1 ≡ following_line (reverse trace)
unfolding following_line
line_is trace = ap (λ t. newlines (trace_text t) + 1) (sym (reverse-reverse trace))

pub line_here : (state : TextState) (trace : List Event) (text : List ℕ) (line : ℕ) → length text < 2 ^ 64
    → state.stop ≡ None → 1 ≤ length state.reading.over → line ≡ capped (state.reading.lines + 1)
    → IsAt state trace text → line ≡ following_line (reverse trace)
line_here state trace text line small goes some is at =
    is ∙ next_line state.reading state.viewing trace text small (at_none state.stop state trace text goes at) some
    ∙ line_is trace

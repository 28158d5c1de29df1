-- How a view of a text changes with one more happening, and with one more piece of text.
use Rattle.trace_view.proofs.Words.{◌≡◌, ◌==◌, ◌||◌, not, ℕ, ◌+◌, ◌^◌, ◌<◌, ◌≤◌, Bool, true, false, List, [], ◌∷◌, ◌++◌}
use Rattle.trace_view.proofs.Words.{length, reverse, Option, Some, None, append-nil, refl, sym, ap, ◌∙◌, subst, arith}
use Rattle.trace_view.proofs.Words.{eqb-true, append_assoc, newlines, Event, event_text, trace_text, trace_text-push}
use Rattle.trace_view.proofs.Words.{are_in_range-push, shorter, law_number, BeginsNever, line_left, Reading, capped}
use Rattle.trace_view.proofs.Words.{ReadsNext, capped_is, lines_push, lines_within, one_line, past_push, ViewState}
use Rattle.trace_view.proofs.Words.{Viewed, is_table, IsBefore, IsShown, StopsAt, begins_run, TextState, HasSeen}
use Rattle.trace_view.proofs.Words.{StopsBy, AtBy, TakenBy, ViewGoesOn, SeesStop, left_of, may_be, seen_by}
use Rattle.std.specs.Option.{option_map}
use Rattle.text_lines.proofs.PieceLemmas.{newlines-append}
use Rattle.trace_events.specs.Lawful.{broken}
use Rattle.trace_events.specs.Range.{are_in_range}
use Rattle.trace_text.specs.Texts.{line_count}
use Rattle.trace_text.proofs.LineTexts.{newlines-event}
use Rattle.trace_check.specs.declared.laws.Law.{Law}
use Rattle.trace_verdict.proofs.Fronts.{never_some}
use Rattle.trace_view.specs.declared.text_views.ViewEnd.{ViewEnd}
use Rattle.trace_view.specs.declared.text_views.ViewEnd.TheVariants.{Breach, Torn, Within}

-- the text of a trace with one more happening
whole_next : (reading new : Reading) (viewing : ViewState) (trace : List Event) (text : List ℕ) (h : Event) → HasSeen
    reading viewing trace text → ReadsNext reading new (Some h) → trace_text (trace ++ h ∷ []) ++ new.over ≡ text
whole_next reading new viewing trace text h seen next = ap (λ t. t ++ new.over) (trace_text-push trace h)
    ∙ append_assoc (trace_text trace) (event_text h) new.over ∙ ap (λ t. trace_text trace ++ t) next.1 ∙ seen.whole

-- a trace that begins with a table still does after one more happening, and its first happening is a table
begins_push : (trace : List Event) (h : Event) (line : ℕ) → line ≡ newlines (trace_text trace) + 1
    → may_be line h ≡ true → begins_run trace ≡ true → begins_run (trace ++ h ∷ []) ≡ true
begins_push trace h line is may begins = grind arith

both_false : (a b : Bool) → (not a || b) ≡ false → (a ≡ true) × (b ≡ false)
both_false true b is = (refl, is)
both_false false b is = absurd (cc)

none_before : (trace : List Event) → are_in_range trace ≡ true → newlines (trace_text trace) ≡ 0 → trace ≡ []
none_before [] are none = grind (arith, newlines-append, newlines-event, one_line)
none_before (h ∷ trace) are none = grind (arith, none_before trace, newlines-append, newlines-event, one_line)

seen_next : (reading new : Reading) (viewing later : ViewState) (trace : List Event) (text : List ℕ) (h : Event)
    → length text < 2 ^ 64 → HasSeen reading viewing trace text → ReadsNext reading new (Some h)
    → begins_run (trace ++ h ∷ []) ≡ true → Viewed later (h ∷ reverse trace) → HasSeen new later (trace ++ h ∷ []) text
seen_next reading new viewing later trace text h small seen next begins viewed = record {
  are = are_in_range-push trace h seen.are next.0;
  whole = whole;
  lines = next.2 ∙ ap (λ n. capped (n + line_count h)) seen.lines
      ∙ capped_is (newlines (trace_text trace) + line_count h) (omega (arith, small, within, pushed)) ∙ sym pushed;
  begins = begins;
  seen = subst (Viewed later) (sym (past_push trace h)) viewed;
} where
  whole : trace_text (trace ++ h ∷ []) ++ new.over ≡ text
  whole = whole_next reading new viewing trace text h seen next

  within : newlines (trace_text (trace ++ h ∷ [])) + length new.over ≤ length text
  within = lines_within (trace ++ h ∷ []) new.over text whole

  pushed : newlines (trace_text (trace ++ h ∷ [])) ≡ newlines (trace_text trace) + line_count h
  pushed = lines_push trace h next.0

-- the number of the line of the next happening
pub next_line : (reading : Reading) (viewing : ViewState) (trace : List Event) (text : List ℕ) → length text < 2 ^ 64
    → HasSeen reading viewing trace text → 1 ≤ length reading.over
    → capped (reading.lines + 1) ≡ newlines (trace_text trace) + 1
next_line reading viewing trace text small seen some = grind (arith, capped_is, lines_within)

breach_here : (reading new : Reading) (viewing : ViewState) (trace : List Event) (text : List ℕ) (h : Event) (law : Law)
    (line : ℕ) → length text < 2 ^ 64 → HasSeen reading viewing trace text → ReadsNext reading new (Some h) → line
    ≡ capped (reading.lines + 1) → broken h (reverse trace) ≡ Some (law_number law) → IsBefore trace law line text
breach_here reading new viewing trace text h law line small seen next is broke = record {
  happening = h;
  rest = new.over;
  are = seen.are;
  whole = whole_next reading new viewing trace text h seen next;
  broke = broke;
  at =
      is
      ∙ next_line reading viewing trace text small seen (omega (arith, shorter h new.over reading.over next.0 next.1));
}

-- the number of the line of the happening that was read
line_of : (reading new : Reading) (viewing : ViewState) (trace : List Event) (text : List ℕ) (h : Event) (line : ℕ)
    → length text < 2 ^ 64 → HasSeen reading viewing trace text → ReadsNext reading new (Some h)
    → line ≡ capped (reading.lines + 1) → line ≡ newlines (trace_text trace) + 1
line_of reading new viewing trace text h line small seen next is =
    is ∙ next_line reading viewing trace text small seen (omega (arith, shorter h new.over reading.over next.0 next.1))

within_here : (reading new : Reading) (viewing : ViewState) (trace : List Event) (text : List ℕ) (h : Event) (line : ℕ)
    → HasSeen reading viewing trace text → ReadsNext reading new (Some h) → line ≡ newlines (trace_text trace) + 1
    → may_be line h ≡ false → StopsAt Within trace text
within_here reading new viewing trace text h line seen next is none =
    let parts = both_false (line == 1) (is_table h) none in
    let empty : trace ≡ [] = none_before trace seen.are (omega (arith, is, eqb-true line 1 parts.0)) in (
      empty,
      record {
        happening = h;
        rest = new.over;
        whole = ap (λ t. t ++ new.over) (sym (append-nil (event_text h))) ∙ ap
            (λ t. trace_text (t ++ h ∷ []) ++ new.over) (sym empty)
            ∙ whole_next reading new viewing trace text h seen next;
        other = parts.1;
      },
    )

seen_goes : (stop : Option ViewEnd) (reading new : Reading) (viewing later : ViewState) (trace : List Event)
    (text : List ℕ) (h : Event) (line : ℕ) → stop ≡ None → length text < 2 ^ 64 → ReadsNext reading new (Some h)
    → SeesStop stop viewing later h line → line ≡ capped (reading.lines + 1) → HasSeen reading viewing trace text
    → AtBy stop (record { reading = new; viewing = later; stop = stop }) (trace ++ h ∷ []) text
seen_goes None reading new viewing later trace text h line is small next sees at seen =
    seen_next reading new viewing later trace text h small seen next (begins_push trace h line (line_of reading new
    viewing trace text h line small seen next at) sees.0 seen.begins) (sees.1 (reverse trace) seen.seen)
seen_goes (Some stop) reading new viewing later trace text h line is small next sees at seen = absurd (cc)

-- a happening at which the view ends is not seen
stops_here : (stop : Option ViewEnd) (why : ViewEnd) (reading new : Reading) (viewing later : ViewState)
    (trace : List Event) (text : List ℕ) (h : Event) (line : ℕ) → stop ≡ Some why → length text < 2 ^ 64
    → ReadsNext reading new (Some h) → SeesStop stop viewing later h line → line ≡ capped (reading.lines + 1) → HasSeen
    reading viewing trace text → TakenBy stop (record { reading = new; viewing = later; stop = stop }) trace text
stops_here None why reading new viewing later trace text h line is small next sees at seen = absurd (cc)
stops_here (Some (Breach law number)) why reading new viewing later trace text h line is small next sees at seen =
    record {
      begins = seen.begins;
      stops = breach_here reading new viewing trace text h law number small seen next (sees.1 ∙ at)
          (sees.2 (reverse trace) seen.seen);
      seen = subst (λ v. Viewed v (reverse trace)) (sym sees.0) seen.seen;
    }
stops_here (Some (Torn number)) why reading new viewing later trace text h line is small next sees at seen = absurd sees
stops_here (Some Within) why reading new viewing later trace text h line is small next sees at seen = record {
  begins = seen.begins;
  stops = within_here reading new viewing trace text h line seen next
      (line_of reading new viewing trace text h line small seen next at) sees.1;
  seen = subst (λ v. Viewed v (reverse trace)) (sym sees.0) seen.seen;
}

-- whether the view has ended, case by case
pub at_none : (stop : Option ViewEnd) (state : TextState) (trace : List Event) (text : List ℕ) → stop ≡ None
    → AtBy stop state trace text → HasSeen state.reading state.viewing trace text
at_none stop state trace text is at = grind arith

pub goes_next : (stop : Option ViewEnd) (old : TextState) (new : Reading) (later : ViewState) (trace : List Event)
    (text : List ℕ) (h : Event) (line : ℕ) → old.stop ≡ None → length text < 2 ^ 64 → ReadsNext old.reading new (Some h)
    → SeesStop stop old.viewing later h line → line ≡ capped (old.reading.lines + 1)
    → ViewGoesOn (seen_by stop h) old (record { reading = new; viewing = later; stop = stop }) trace text
goes_next None old new later trace text h line went small next sees is = λ at. seen_goes None old.reading new
    old.viewing later trace text h line refl small next sees is (at_none old.stop old trace text went at)
goes_next (Some stop) old new later trace text h line went small next sees is =
    λ at. stops_here (Some stop) stop old.reading new old.viewing later trace text h line refl small next sees is
    (at_none old.stop old trace text went at)

pub torn_here : (reading : Reading) (viewing : ViewState) (trace : List Event) (text : List ℕ) (number : ℕ)
    → length text < 2 ^ 64 → number ≡ capped (reading.lines + 1) → BeginsNever reading.over
    → HasSeen reading viewing trace text → StopsBy (Torn number) viewing trace text
torn_here reading viewing trace text number small is none seen = record {
  begins = seen.begins;
  stops = (
    record {
      trace = trace;
      rest = reading.over;
      behind = [];
      are = seen.are;
      whole = append-nil (trace_text trace ++ reading.over) ∙ seen.whole;
      counted = is ∙ next_line reading viewing trace text small seen (never_some reading.over none);
      none = none;
    },
    refl,
  );
  seen = seen.seen;
}

-- more text may follow the line at which the view ended
pub stops_more : (stop : ViewEnd) (trace : List Event) (text piece : List ℕ) → StopsAt stop trace text
    → StopsAt stop trace (text ++ piece)
stops_more (Breach law line) trace text piece stops = record {
  happening = stops.happening;
  rest = stops.rest ++ piece;
  are = stops.are;
  whole =
      sym (append_assoc (trace_text (trace ++ stops.happening ∷ [])) stops.rest piece)
      ∙ ap (λ t. t ++ piece) stops.whole;
  broke = stops.broke;
  at = stops.at;
}
stops_more (Torn number) trace text piece stops = (
  record {
    trace = stops.0.trace;
    rest = stops.0.rest;
    behind = stops.0.behind ++ piece;
    are = stops.0.are;
    whole = sym (append_assoc (trace_text stops.0.trace ++ stops.0.rest) stops.0.behind piece)
        ∙ ap (λ t. t ++ piece) stops.0.whole;
    counted = stops.0.counted;
    none = stops.0.none;
  },
  stops.1,
)
stops_more Within trace text piece stops = (
  stops.0,
  record {
    happening = stops.1.happening;
    rest = stops.1.rest ++ piece;
    whole = sym (append_assoc (event_text stops.1.happening) stops.1.rest piece) ∙ ap (λ t. t ++ piece) stops.1.whole;
    other = stops.1.other;
  },
)

pub still_stopped : (stop : Option ViewEnd) (state : TextState) (trace : List Event) (text piece : List ℕ)
    (why : ViewEnd) → stop ≡ Some why → TakenBy stop state trace text → AtBy stop state trace (text ++ piece)
still_stopped (Some stop) state trace text piece why is taken = record {
  begins = taken.begins;
  stops = stops_more stop trace text piece taken.stops;
  seen = taken.seen;
}
still_stopped None state trace text piece why is taken = absurd (cc)

-- the trace that the view has seen
pub seen_at : (stop : Option ViewEnd) (state : TextState) (trace : List Event) (text : List ℕ)
    → AtBy stop state trace text → Viewed state.viewing (reverse trace)
seen_at stop state trace text at = grind arith

-- what is shown of the text
left_is : (reading : Reading) (viewing : ViewState) (trace : List Event) (text over : List ℕ) → length text < 2 ^ 64
    → HasSeen reading viewing trace text → reading.over ≡ over
    → option_map capped (line_left reading.lines over) ≡ line_left (newlines (trace_text trace)) over
left_is reading viewing trace text [] small seen is = refl
left_is reading viewing trace text (byte ∷ over) small seen is =
    ap Some (next_line reading viewing trace text small seen (omega (arith, ap length is)))

pub shown : (stop : Option ViewEnd) (state : TextState) (trace : List Event) (text : List ℕ) (open_line : Option ℕ)
    → length text < 2 ^ 64 → TakenBy stop state trace text → open_line ≡ left_of stop (option_map capped (line_left
    state.reading.lines state.reading.over)) → IsShown text stop open_line trace × Viewed state.viewing (reverse trace)
shown None state trace text open_line small taken is = (
  (
    taken.0.begins,
    record {
      over = state.reading.over;
      are = taken.0.are;
      whole = taken.0.whole;
      unfinished = taken.1;
      at = is ∙ left_is state.reading state.viewing trace text state.reading.over small taken.0 refl;
    },
  ),
  taken.0.seen,
)
shown (Some stop) state trace text open_line small taken is = ((taken.begins, (taken.stops, is)), taken.seen)

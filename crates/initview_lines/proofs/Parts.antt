-- Lemmas on reading one more happening, or one more piece, of a text that begins in the middle of a run.
use Rattle.initview_lines.proofs.CommonWords.{◌≡◌, refl, sym, ap, ◌∙◌, ℕ, ◌+◌, ◌^◌, ◌<◌, ◌≤◌, Bool, true, false, List}
use Rattle.initview_lines.proofs.CommonWords.{[], ◌∷◌, ◌++◌, length, reverse, Option, Some, None, arith, option_map}
use Rattle.initview_lines.proofs.CommonWords.{Event, time_of, BeginsNever, line_left, Reading, capped, ReadsNext}
use Rattle.initview_lines.proofs.CommonWords.{capped_is, lines_push, lines_within, past_push, ViewEnd, ShownBy}
use Rattle.initview_lines.proofs.CommonWords.{left_of, stops_more, Line, line_at, news_of, HasTold, IsReadOf, IsTelling}
use Rattle.initview_lines.proofs.CommonWords.{IsToldOf, PartState, ReadBy, TakenBy, TellsOn, part_in}
use Rattle.std.proofs.Common.{append-nil, append_assoc}
use Rattle.text_lines.specs.Lines.{newlines}
use Rattle.trace_text.specs.Lines.{event_text, trace_text}
use Rattle.trace_text.specs.Texts.{line_count}
use Rattle.trace_text.proofs.ReadTexts.{trace_text-push, are_in_range-push}
use Rattle.trace_verdict.proofs.Fronts.{never_some}
use Rattle.trace_view.specs.declared.text_views.ViewEnd.TheVariants.{Torn}

-- the number of the line at which the unread part begins
line_next : (reading : Reading) (trace : List Event) (text : List ℕ) → length text < 2 ^ 64 → IsReadOf reading trace
    text → 1 ≤ length reading.over → capped (reading.lines + 1) ≡ newlines (trace_text trace) + 1
line_next reading trace text small read some = grind (arith, capped_is, lines_within)

-- a reader that has not stopped
read_at : (stop : Option ViewEnd) (reading : Reading) (trace : List Event) (text : List ℕ) → stop ≡ None
    → ReadBy stop reading trace text → IsReadOf reading trace text
read_at None reading trace text none read = read
read_at (Some stop) reading trace text none read = absurd (cc)

at_read : (stop : Option ViewEnd) (reading : Reading) (trace : List Event) (text : List ℕ) → stop ≡ None
    → IsReadOf reading trace text → ReadBy stop reading trace text
at_read None reading trace text none read = read
at_read (Some stop) reading trace text none read = absurd (cc)

-- one more happening
read_next : (reading new : Reading) (trace : List Event) (text : List ℕ) (h : Event) → length text < 2 ^ 64
    → ReadsNext reading new (Some h) → IsReadOf reading trace text → IsReadOf new (trace ++ h ∷ []) text
read_next reading new trace text h small next read = record {
  are = are_in_range-push trace h read.are next.0;
  whole = whole;
  lines = next.2 ∙ ap (λ n. capped (n + line_count h)) read.lines
      ∙ capped_is (newlines (trace_text trace) + line_count h) (omega (arith, small, within, pushed)) ∙ sym pushed;
} where
  whole : trace_text (trace ++ h ∷ []) ++ new.over ≡ text
  whole = ap (λ t. t ++ new.over) (trace_text-push trace h) ∙ append_assoc (trace_text trace) (event_text h) new.over
      ∙ ap (λ t. trace_text trace ++ t) next.1 ∙ read.whole

  within : newlines (trace_text (trace ++ h ∷ [])) + length new.over ≤ length text
  within = lines_within (trace ++ h ∷ []) new.over text whole

  pushed : newlines (trace_text (trace ++ h ∷ [])) ≡ newlines (trace_text trace) + line_count h
  pushed = lines_push trace h next.0

pub one_told : (old : PartState) (new : Reading) (time : ℕ) (past_lines before after : List Line) (text : List ℕ)
    (h : Event)
    → old.stop ≡ None → length text < 2 ^ 64 → ReadsNext old.reading new (Some h) → ((past : List Event) → old.time
    ≡ time_of past → time ≡ time_of (h ∷ past)) → after ≡ before ++ line_at time (news_of h []) → IsTelling old
    (past_lines ++ before) text
    → IsTelling (record { reading = new; time = time; stop = old.stop }) (past_lines ++ after) text
one_told old new time past_lines before after text h went small next later is at =
    let now : time ≡ time_of (h ∷ reverse at.0) = later (reverse at.0) at.2 in (
      at.0 ++ h ∷ [],
      at_read old.stop new (at.0 ++ h ∷ []) text went
          (read_next old.reading new at.0 text h small next (read_at old.stop old.reading at.0 text went at.1)),
      now ∙ sym (ap time_of (past_push at.0 h)),
      ap (λ l. past_lines ++ l) is
          ∙ sym (append_assoc past_lines before (line_at time (news_of h [])))
          ∙ ap (λ l. l ++ line_at time (news_of h [])) at.3
          ∙ ap (λ t. part_in (reverse at.0) ++ line_at t (news_of h [])) now
          ∙ sym (ap part_in (past_push at.0 h)),
    )

pub torn_told : (old : PartState) (past_lines : List Line) (text : List ℕ) (number : ℕ) → old.stop ≡ None → length text
    < 2 ^ 64 → number ≡ capped (old.reading.lines + 1) → BeginsNever old.reading.over → IsTelling old past_lines text
    → HasTold (record { reading = old.reading; time = old.time; stop = Some (Torn number) }) past_lines text
torn_told old past_lines text number went small is none at =
    let read : IsReadOf old.reading at.0 text = read_at old.stop old.reading at.0 text went at.1 in (
      at.0,
      (
        record {
          trace = at.0;
          rest = old.reading.over;
          behind = [];
          are = read.are;
          whole = append-nil (trace_text at.0 ++ old.reading.over) ∙ read.whole;
          counted = is ∙ line_next old.reading at.0 text small read (never_some old.reading.over none);
          none = none;
        },
        refl,
      ),
      at.2,
      at.3,
    )

still : (stop : Option ViewEnd) (why : ViewEnd) (reading : Reading) (trace : List Event) (text : List ℕ)
    → stop ≡ Some why → ReadBy stop reading trace text → TakenBy stop reading trace text
still (Some stop) why reading trace text is read = read
still None why reading trace text is read = absurd (cc)

pub still_told : (old : PartState) (why : ViewEnd) (past_lines : List Line) (text : List ℕ) → old.stop ≡ Some why
    → IsTelling old past_lines text → HasTold old past_lines text
still_told old why past_lines text is at = (at.0, still old.stop why old.reading at.0 text is at.1, at.2, at.3)

-- one more piece
more_stopped : (stop : Option ViewEnd) (why : ViewEnd) (reading : Reading) (trace : List Event) (text piece : List ℕ)
    → stop ≡ Some why → TakenBy stop reading trace text → ReadBy stop reading trace (text ++ piece)
more_stopped (Some stop) why reading trace text piece is taken = stops_more stop trace text piece taken
more_stopped None why reading trace text piece is taken = absurd (cc)

pub fed_stopped : (old : PartState) (why : ViewEnd) (past_lines : List Line) (text piece : List ℕ) → old.stop ≡ Some why
    → HasTold old past_lines text → IsTelling old past_lines (text ++ piece)
fed_stopped old why past_lines text piece is told =
    (told.0, more_stopped old.stop why old.reading told.0 text piece is told.1, told.2, told.3)

more_read : (stop : Option ViewEnd) (reading new : Reading) (trace : List Event) (text piece : List ℕ) → stop ≡ None
    → new ≡ record reading { over = reading.over ++ piece } → TakenBy stop reading trace text
    → ReadBy stop new trace (text ++ piece)
more_read None reading new trace text piece none is taken = rw is (record {
  are = taken.0.are;
  whole = sym (append_assoc (trace_text trace) reading.over piece) ∙ ap (λ t. t ++ piece) taken.0.whole;
  lines = taken.0.lines;
})
more_read (Some stop) reading new trace text piece none is taken = absurd (cc)

pub fed_more : (old : PartState) (new : Reading) (past_lines : List Line) (text piece : List ℕ) → old.stop ≡ None
    → new ≡ record old.reading { over = old.reading.over ++ piece } → HasTold old past_lines text
    → IsTelling (record { reading = new; time = old.time; stop = old.stop }) past_lines (text ++ piece)
fed_more old new past_lines text piece none is told =
    (told.0, more_read old.stop old.reading new told.0 text piece none is told.1, told.2, told.3)

-- the lines of one more happening were added
pub more_told : (more : Bool) (old new : PartState) (before after : List Line) (text : List ℕ) → more ≡ true
    → TellsOn more old before new after text → IsTelling old before text → IsTelling new after text
more_told true old new before after text is on = on
more_told false old new before after text is on = absurd (cc)

pub all_told : (more : Bool) (old new : PartState) (before after : List Line) (text : List ℕ) → more ≡ false
    → TellsOn more old before new after text → IsTelling old before text → HasTold new after text
all_told false old new before after text is on = on
all_told true old new before after text is on = absurd (cc)

-- the line at which an incomplete happening begins
left_is : (reading : Reading) (trace : List Event) (text over : List ℕ) → length text < 2 ^ 64
    → IsReadOf reading trace text → reading.over ≡ over
    → option_map capped (line_left reading.lines over) ≡ line_left (newlines (trace_text trace)) over
left_is reading trace text [] small read is = refl
left_is reading trace text (byte ∷ over) small read is =
    ap Some (line_next reading trace text small read (omega (arith, ap length is)))

shown_by : (stop : Option ViewEnd) (reading : Reading) (trace : List Event) (text : List ℕ) (open_line : Option ℕ)
    → length text < 2 ^ 64 → TakenBy stop reading trace text
    → open_line ≡ left_of stop (option_map capped (line_left reading.lines reading.over))
    → ShownBy stop open_line trace text
shown_by None reading trace text open_line small taken is = record {
  over = reading.over;
  are = taken.0.are;
  whole = taken.0.whole;
  unfinished = taken.1;
  at = is ∙ left_is reading trace text reading.over small taken.0 refl;
}
shown_by (Some stop) reading trace text open_line small taken is = (taken, is)

pub told_of : (state : PartState) (past_lines : List Line) (text : List ℕ) (open_line : Option ℕ) → length text < 2 ^ 64
    → open_line ≡ left_of state.stop (option_map capped (line_left state.reading.lines state.reading.over))
    → HasTold state past_lines text → IsToldOf text state.stop open_line past_lines
told_of state past_lines text open_line small is told =
    (told.0, shown_by state.stop state.reading told.0 text open_line small told.1 is, told.3)

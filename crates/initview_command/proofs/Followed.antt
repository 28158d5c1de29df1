-- Lemmas on what is written for a followed trace.
use Rattle.initview_command.proofs.Words.{◌≡◌, refl, sym, ap, ◌∙◌, subst, ℕ, ◌+◌, ◌-◌, ◌^◌, ◌<◌, ◌≤◌, Bool, true, false}
use Rattle.initview_command.proofs.Words.{is_some, List, [], ◌∷◌, ◌++◌, length, length-append, append_assoc, arith}
use Rattle.initview_command.proofs.Words.{Option, Some, None, option_map, Result, Ok, Err, IfOk, OnErr, Consumes}
use Rattle.initview_command.proofs.Words.{IsAtEnd, Consumes-trans, PIECE_LIMIT, ViewEnd, Line, KnownOutput, WritesLines}
use Rattle.initview_command.proofs.Words.{WritesLinePrefix}
use Rattle.initview_command.proofs.Words.{front_none, front_still, front_then, front_whole, says_nothing, says_then}
use Rattle.initview_command.proofs.Words.{AreLinesOf, WritesNothing}
use Rattle.initview_command.proofs.Words.{BeginsAllOf, FollowsAll, FollowsPart, HasLines, HasWritten, IsAllOf, IsFor}
use Rattle.initview_command.proofs.Words.{IsHidden, Start, WritesAll, WritesPart, begins_run, is_judged, judges}
use Rattle.initview_command.proofs.Words.{HasFollowed, HasKept, MayKeep, there_limit}
use Rattle.std.proofs.Common.{append-nil}
use Rattle.trace_verdict.specs.Fronts.{line_left}
use Rattle.trace_verdict.specs.Readers.{capped}
use Rattle.trace_view.specs.Views.{left_of}
use Rattle.trace_view.proofs.SeenTexts.{stops_more}
use Rattle.initview_lines.specs.Following.{AreFollowedLines}
use Rattle.initview_lines.specs.Parts.{IsToldOf}
use Rattle.initview_lines.proofs.Parts.{told_of}
use Rattle.initview_lines.proofs.SaidOf.{said_of, said_more}
use Rattle.initview_command.specs.declared.following.Reader.{Reader}
use Rattle.initview_command.specs.declared.following.Reader.TheVariants.{Run, Part}
use Rattle.initview_command.specs.Following.{start_of}

-- the lines of a reader are those of its text; they stay so if the text continues after the line at which the reader
-- stopped
pub lines_of : (reader : Reader) (past_lines : List Line) (text : List ℕ) → length text < 2 ^ 64
    → HasLines reader past_lines text
    → (stop : Option ViewEnd) × (line : Option ℕ) × AreLinesOf (judges reader) text stop line past_lines
lines_of (Run state) past_lines text small has = said_of state past_lines text small has
lines_of (Part state) past_lines text small has =
    let line : Option ℕ = left_of state.stop (option_map capped (line_left state.reading.lines state.reading.over)) in
    (state.stop, line, told_of state past_lines text line small refl has)

told_more : (text more : List ℕ) (stop : Option ViewEnd) (line : Option ℕ) (past_lines : List Line)
    → is_some stop ≡ true → IsToldOf text stop line past_lines → IsToldOf (text ++ more) stop line past_lines
told_more text more None line past_lines is so = absurd (cc)
told_more text more (Some stop) line past_lines is so = (so.0, (stops_more stop so.0 text more so.1.0, so.1.1), so.2)

lines_more : (judged : Bool) (text more : List ℕ) (stop : Option ViewEnd) (line : Option ℕ) (past_lines : List Line)
    → is_some stop ≡ true → AreLinesOf judged text stop line past_lines
    → AreLinesOf judged (text ++ more) stop line past_lines
lines_more true text more stop line past_lines is so = said_more text more stop line past_lines is so
lines_more false text more stop line past_lines is so = told_more text more stop line past_lines is so

-- a reader for a text is a reader for a longer one
pub for_more : (last : Option ℕ) (old new : Reader) (text piece : List ℕ) → judges new ≡ judges old
    → IsFor last old text → IsFor last new (text ++ piece)
for_more last old new text piece same is =
    λ more. ap (is_judged last) (append_assoc text piece more) ∙ is (piece ++ more) ∙ sym same

as_asked : (last : Option ℕ) (reader : Reader) (text : List ℕ) (stop : Option ViewEnd) (line : Option ℕ)
    (past_lines : List Line) → IsFor last reader text → AreLinesOf (judges reader) text stop line past_lines
    → AreLinesOf (is_judged last text) text stop line past_lines
as_asked last reader text stop line past_lines is so =
    subst (λ j. AreLinesOf j text stop line past_lines) (sym (is []) ∙ ap (is_judged last) (append-nil text)) so

-- a reader takes one more piece, and its lines are appended to the earlier ones
abbrev pub Takes : Reader → Reader → List ℕ → List Line → List Line → Type 0
Takes old new piece before lines =
    (past_lines : List Line) (text : List ℕ) → length (text ++ piece) < 2 ^ 64
    → HasLines old (past_lines ++ before) text → HasLines new (past_lines ++ lines) (text ++ piece)

lines_then : (old new : Reader) (text piece : List ℕ) (past_lines none lines : List Line) → none ≡ []
    → length (text ++ piece)
    < 2 ^ 64 → Takes old new piece none lines → HasLines old past_lines text
    → HasLines new (past_lines ++ lines) (text ++ piece)
lines_then old new text piece past_lines none lines is small takes has =
    takes past_lines text small
    (subst (λ s. HasLines old s text) (sym (append-nil past_lines) ∙ ap (λ n. past_lines ++ n) (sym is)) has)

module _ (start : Start) (old new : Reader) (text piece : List ℕ) (none lines : List Line) (before after : KnownOutput)
    (is : none ≡ []) (small : length (text ++ piece) < 2 ^ 64) (same : judges new ≡ judges old)
    (takes : Takes old new piece none lines) where
  behind_hidden : (shown : List Line) → HasLines old (start.hidden ++ shown) text
      → HasLines new (start.hidden ++ (shown ++ lines)) (text ++ piece)
  behind_hidden shown has =
      subst (λ s. HasLines new s (text ++ piece)) (append_assoc start.hidden shown lines)
      (lines_then old new text piece (start.hidden ++ shown) none lines is small takes has)

  -- the lines of the piece were written
  pub piece_written : WritesLines before after lines → HasWritten start old text before
      → HasWritten start new (text ++ piece) after
  piece_written appends (shown, for, has, said) = (
    shown ++ lines,
    for_more start.last old new text piece same for,
    behind_hidden shown has,
    says_then start.heard before after shown lines said appends,
  )

  -- some of the lines of the piece were written
  pub piece_part : WritesLinePrefix before after lines → HasWritten start old text before
      → WritesPart start (Some (text ++ piece)) after
  piece_part part (shown, for, has, said) =
      let so = lines_of new (start.hidden ++ (shown ++ lines)) (text ++ piece) small (behind_hidden shown has) in (
        text ++ piece,
        shown ++ lines,
        so.0,
        so.1,
        ([], append-nil (text ++ piece)),
        as_asked start.last new (text ++ piece) so.0 so.1 (start.hidden ++ (shown ++ lines))
            (for_more start.last old new text piece same for) so.2,
        front_then start.heard before after shown lines said part,
      )

-- the lines of everything that was taken were written
pub written_part : (start : Start) (input : Option (List ℕ)) (reader : Reader) (text : List ℕ) (now : KnownOutput)
    → length text < 2 ^ 64 → BeginsAllOf input text → HasWritten start reader text now → WritesPart start input now
written_part start input reader text now small begins has =
    let so = lines_of reader (start.hidden ++ has.0) text small has.2 in (
      text,
      has.0,
      so.0,
      so.1,
      begins,
      as_asked start.last reader text so.0 so.1 (start.hidden ++ has.0) has.1 so.2,
      front_whole start.heard now has.0 has.3,
    )

pub piece_unseen : (start : Start) (reader : Reader) (text piece : List ℕ) (now : KnownOutput)
    → length (text ++ piece) < 2 ^ 64 → HasWritten start reader text now → WritesPart start (Some (text ++ piece)) now
piece_unseen start reader text piece now small has =
    written_part start (Some (text ++ piece)) reader text now (omega (arith, small, length-append text piece))
    (piece, refl) has

-- the text that was read is a prefix of the input
pub begins : (input now : Option (List ℕ)) (text : List ℕ) → Consumes input now text → BeginsAllOf input text
begins None now text consumed = tt
begins (Some known) None text consumed = absurd consumed
begins (Some known) (Some rest) text consumed = (rest, sym consumed)

begins_more : (input now : Option (List ℕ)) (text front : List ℕ) → Consumes input now text
    → BeginsAllOf (Some text) front → BeginsAllOf input front
begins_more None now text front consumed begins = tt
begins_more (Some known) None text front consumed begins = absurd consumed
begins_more (Some known) (Some rest) text front consumed begins =
    (begins.0 ++ rest, sym (append_assoc front begins.0 rest) ∙ ap (λ t. t ++ rest) begins.1 ∙ sym consumed)

-- some lines of the text that was read are some lines of the input
pub part_of : (start : Start) (input now : Option (List ℕ)) (text : List ℕ) (new : KnownOutput)
    → Consumes input now text → WritesPart start (Some text) new → WritesPart start input new
part_of start input now text new consumed part =
    (part.0, part.1, part.2, part.3, begins_more input now text part.0 consumed part.4, part.5, part.6)

-- everything was taken, at the end of the input or where the reader goes no further
all_taken : (input now after : Option (List ℕ)) (text : List ℕ) → Consumes input now text → Consumes now after []
    → IsAtEnd after → IsAllOf input text
all_taken None now after text consumed none ended = tt
all_taken (Some known) None after text consumed none ended = absurd consumed
all_taken (Some known) (Some rest) None text consumed none ended = absurd none
all_taken (Some known) (Some rest) (Some more) text consumed none ended =
    sym (append-nil text) ∙ ap (λ t. text ++ t) (sym (none ∙ ended)) ∙ sym consumed

rest_of : (input now : Option (List ℕ)) (text : List ℕ) → Consumes input now text
    → (rest : List ℕ) × IsAllOf input (text ++ rest)
rest_of None now text consumed = ([], tt)
rest_of (Some known) None text consumed = absurd consumed
rest_of (Some known) (Some rest) text consumed = (rest, sym consumed)

module _ (start : Start) (input now : Option (List ℕ)) (stop : Option ViewEnd) (line : Option ℕ) (reader : Reader)
    (text : List ℕ) (new : KnownOutput) (consumed : Consumes input now text) (small : length text < 2 ^ 64)
    (lines : (past_lines : List Line) (text : List ℕ) → length text < 2 ^ 64 → HasLines reader past_lines text
    → AreLinesOf (judges reader) text stop line past_lines) (has : HasWritten start reader text new) where
  are : AreLinesOf (judges reader) text stop line (start.hidden ++ has.0)
  are = lines (start.hidden ++ has.0) text small has.2

  pub all_read : (after : Option (List ℕ)) → Consumes now after [] → IsAtEnd after
      → WritesAll start input stop line new
  all_read after none ended = (
    text,
    has.0,
    all_taken input now after text consumed none ended,
    as_asked start.last reader text stop line (start.hidden ++ has.0) has.1 are,
    has.3,
  )

  pub all_stopped : is_some stop ≡ true → WritesAll start input stop line new
  all_stopped is =
      let (rest, all) = rest_of input now text consumed in (
        text ++ rest,
        has.0,
        all,
        subst (λ j. AreLinesOf j (text ++ rest) stop line (start.hidden ++ has.0)) (sym (has.1 rest))
            (lines_more (judges reader) text rest stop line (start.hidden ++ has.0) is are),
        has.3,
      )

-- a property of the result is replaced by another one that it implies
pub if_ok : {A E : Type 0} (P Q : A → Type 0) (result : Result A E) → ((answer : A) → P answer → Q answer)
    → IfOk result P → IfOk result Q
if_ok P Q (Ok answer) so is = so answer is
if_ok P Q (Err error) so is = is

pub if_err : {A E : Type 0} (P Q : Type 0) (result : Result A E) → (P → Q) → OnErr result P → OnErr result Q
if_err P Q (Ok answer) so is = is
if_err P Q (Err error) so is = so is

-- nothing was taken
nothing : AreFollowedLines [] None None []
nothing = ([], (refl, record { over = []; are = refl; whole = refl; unfinished = refl; at = refl }), refl, refl)

none_of : (input : Option (List ℕ)) → BeginsAllOf input []
none_of None = tt
none_of (Some known) = (known, refl)

none_taken : (input : Option (List ℕ)) → Consumes input input []
none_taken None = tt
none_taken (Some known) = refl

none_judged : (last : Option ℕ) → AreLinesOf (is_judged last []) [] None None []
none_judged None = nothing
none_judged (Some count) = nothing

none_hidden : (last : Option ℕ) (input : Option (List ℕ)) → IsHidden last input []
none_hidden None input = refl
none_hidden (Some count) input = ([], [], None, None, none_of input, nothing, omega (arith))

pub none_part : (last : Option ℕ) (input : Option (List ℕ)) (now : KnownOutput) → FollowsPart last input now now
none_part last input now =
    ([], none_hidden last input, ([], [], None, None, none_of input, none_judged last, front_none now []))

pub none_all : (last : Option ℕ) (input : Option (List ℕ)) (now : KnownOutput) → IsAllOf input []
    → FollowsAll last input None None now now
none_all last input now all = ([], none_hidden last input, ([], [], all, none_judged last, says_nothing now))

-- nothing is written after some of the lines
pub part_still : (last : Option ℕ) (input : Option (List ℕ)) (old mid new : KnownOutput)
    → FollowsPart last input old mid → WritesNothing mid new → FollowsPart last input old new
part_still last input old mid new (hidden, is, (text, shown, stop, line, begins, are, front)) nothing =
    (hidden, is, (text, shown, stop, line, begins, are, front_still old mid new shown front nothing))

-- all lines are written, from the first one on
pub from_first : (input : Option (List ℕ)) (reader next : Reader) (now : KnownOutput) → next ≡ reader
    → judges reader ≡ true → HasLines reader [] [] → (P : Start → Option (List ℕ) → Type 0)
    → ((start : Start) (known : Option (List ℕ)) → HasFollowed start known next input now → P start known)
    → (hidden : List Line) × IsHidden None input hidden × P (start_of None hidden now) input
from_first input reader next now same is has P so = (
  [],
  refl,
  so (start_of None [] now) input (rw same (
    [],
    none_taken input,
    omega (arith),
    ([], (λ more. sym is), has, says_nothing now),
  )),
)

-- of the kept lines, all but the last ones are dropped
pub kept_last : (limit count : ℕ) (input remaining : Option (List ℕ)) (reader : Reader) (lines front last : List Line)
    → lines ≡ front ++ last → length front ≡ length lines - count → MayKeep limit count input reader lines remaining
    → HasKept limit count input reader last remaining
kept_last limit count input remaining reader lines front last are few (text, hidden, consumed, short, is, has, kept) = (
  text,
  hidden ++ front,
  consumed,
  short,
  is,
  subst (λ s. HasLines reader s text) (ap (λ l. hidden ++ l) are ∙ sym (append_assoc hidden front last)) has,
  omega (
    arith,
    few,
    kept,
    length-append hidden lines,
    length-append hidden front,
    length-append (hidden ++ front) last,
    ap length are,
    length-append front last,
  ),
)

-- the lines of one more piece are appended to the kept ones
pub kept_more : (limit count : ℕ) (input now after : Option (List ℕ)) (old new : Reader) (piece : List ℕ)
    (before lines all : List Line) → limit + PIECE_LIMIT < 2 ^ 64 → all ≡ before ++ lines → length piece ≤ PIECE_LIMIT
    → Consumes now after piece → judges new ≡ judges old → ((past_lines : List Line) (text : List ℕ)
    → length (text ++ piece) < 2 ^ 64 → HasLines old past_lines text
    → HasLines new (past_lines ++ lines) (text ++ piece))
    → HasKept limit count input old before now → MayKeep (limit + PIECE_LIMIT) count input new all after
kept_more limit count input now after old new piece before lines all small are short more same takes
    (text, hidden, consumed, few, for, has, kept) =
    let long : length (text ++ piece) ≤ limit + PIECE_LIMIT = omega (arith, few, short, length-append text piece) in (
      text ++ piece,
      hidden,
      Consumes-trans _ _ _ _ _ consumed more,
      long,
      for_more (Some count) old new text piece same for,
      subst (λ s. HasLines new s (text ++ piece)) (append_assoc hidden before lines ∙ ap (λ l. hidden ++ l) (sym are))
          (takes (hidden ++ before) text (omega (arith, long, small)) has),
      omega (
        arith,
        kept,
        length-append hidden before,
        length-append hidden all,
        ap length are,
        length-append before lines,
      ),
    )

pub kept_there : (limit count : ℕ) (input remaining : Option (List ℕ)) (reader : Reader) (lines front last : List Line)
    → limit ≤ there_limit → lines ≡ front ++ last → length front ≡ length lines - count
    → MayKeep limit count input reader lines remaining → HasKept there_limit count input reader last remaining
kept_there limit count input remaining reader lines front last within are few may =
    let (text, hidden, consumed, small, is, has, kept) = kept_last limit count input remaining reader lines front last
    are few may in (text, hidden, consumed, omega (arith, small, within), is, has, kept)

pub kept_none : (limit count : ℕ) (input now after : Option (List ℕ)) (reader : Reader) (lines : List Line)
    → Consumes now after [] → HasKept limit count input reader lines now → HasKept limit count input reader lines after
kept_none limit count input now after reader lines none (text, hidden, consumed, few, is, has, kept) = (
  text,
  hidden,
  subst (Consumes input after) (append-nil text) (Consumes-trans _ _ _ _ _ consumed none),
  few,
  is,
  has,
  kept,
)

-- the reader of the first piece
pub first_kept : (count : ℕ) (input now : Option (List ℕ)) (old new : Reader) (piece : List ℕ) (none lines : List Line)
    → none ≡ [] → 0 < length piece → length piece ≤ PIECE_LIMIT → Consumes input now piece
    → judges old ≡ begins_run piece → judges new ≡ judges old → HasLines old [] [] → Takes old new piece none lines
    → MayKeep PIECE_LIMIT count input new lines now
first_kept count input now old new [] none lines is some short consumed judged same has takes =
    absurd (omega (arith, some))
first_kept count input now old new (byte ∷ piece) none lines is some short consumed judged same has takes = (
  byte ∷ piece,
  [],
  consumed,
  short,
  (λ more. sym judged ∙ sym same),
  lines_then old new [] (byte ∷ piece) [] none lines is (omega (arith, short)) takes has,
  omega (arith),
)

module _ (count : ℕ) (input now : Option (List ℕ)) (reader : Reader) (lines : List Line) (old new : KnownOutput)
    (kept : HasKept there_limit count input reader lines now) where
  kept_lines : (stop : Option ViewEnd) × (line : Option ℕ) × BeginsAllOf input kept.0
      × AreLinesOf (begins_run kept.0) kept.0 stop line (kept.1 ++ lines)
  kept_lines =
      let so = lines_of reader (kept.1 ++ lines) kept.0 (omega (arith, kept.3)) kept.5 in (
        so.0,
        so.1,
        begins input now kept.0 kept.2,
        as_asked (Some count) reader kept.0 so.0 so.1 (kept.1 ++ lines) kept.4 so.2,
      )

  kept_hidden : IsHidden (Some count) input kept.1
  kept_hidden = let (stop, line, begun, are) = kept_lines in (kept.0, lines, stop, line, begun, are, kept.6)

  pub kept_part : WritesLinePrefix old new lines → FollowsPart (Some count) input old new
  kept_part front =
      let (stop, line, begun, are) = kept_lines in
      (kept.1, kept_hidden, (kept.0, lines, stop, line, begun, are, front))

  -- the kept lines are written, then the lines after them
  pub kept_first : (next : Reader) → next ≡ reader → WritesLines old new lines → (P : Start → Option (List ℕ) → Type 0)
      → ((start : Start) (known : Option (List ℕ)) → HasFollowed start known next now new → P start known)
      → (hidden : List Line) × IsHidden (Some count) input hidden × P (start_of (Some count) hidden old) input
  kept_first next same says P so = (
    kept.1,
    kept_hidden,
    so (start_of (Some count) kept.1 old) input
        (rw same (kept.0, kept.2, kept.3, (lines, kept.4, kept.5, says))),
  )

-- What remains true of a text when more text follows.
use Rattle.trace_verdict.proofs.Words.{◌≡◌, ℕ, zero, suc, ◌+◌, ◌-◌, ◌<◌, ◌≤◌, true, false, ◌&&◌, nat_lt, nat_le, List}
use Rattle.trace_verdict.proofs.Words.{[], ◌∷◌, ◌++◌, length, take, drop, Option, Some, None, option_and_then, refl}
use Rattle.trace_verdict.proofs.Words.{sym, ap, ◌∙◌, subst, arith, length-append, option_map_or, append_assoc}
use Rattle.trace_verdict.proofs.Words.{take-append-drop, cut, has_byte, newlines, after_lines, newlines-append}
use Rattle.trace_verdict.proofs.Words.{newlines-line, Front, after_lines-front, take-front, Event, event_text}
use Rattle.trace_verdict.proofs.Words.{table_lines, is_in_range, Begun, line_count, BeginsNone, FirstLine, line_first}
use Rattle.trace_verdict.proofs.Words.{begun-text, text-begun, newlines-event, lines_of, lines_due, is_unfinished}
use Rattle.trace_verdict.proofs.Words.{size_limit, BeginsNever}
use Rattle.std.specs.Option.{option_map}
use Rattle.std.proofs.lemmas.Bool.{ltb-true}
use Rattle.std.proofs.lemmas.Bool.Decides.{nat_tests}
use Rattle.std.proofs.lemmas.Option.{none-some, some_pair_parts}
use Rattle.init_words.specs.declared.entries.Entry.{Entry}
use Rattle.text_lines.proofs.CutLemmas.{cut-parts}
use Rattle.inittab_text.specs.declared.reading.TheConstants.{TEXT_LIMIT}
use Rattle.inittab_text.specs.Written.{table_written, table_begun}
use Rattle.trace_events.specs.declared.happenings.Happening.TheVariants.{NewTable}
use Rattle.trace_text.specs.declared.reading.TheConstants.{LINE_LIMIT}
use Rattle.trace_text.specs.Reading.{entries_brought, words_in, begun_by, begun}
use Rattle.trace_text.proofs.LineFronts.{cut-more, newlines-cut, newlines-uncut, after_lines-some, after_lines-more}

pub due_some : (text : List ℕ) → 1 ≤ lines_due text
due_some text = grind arith

due_cut : (text line rest : List ℕ) → cut 10 text ≡ Some (line, rest) → lines_due text ≡ lines_of line
due_cut text line rest is = ap (λ o. option_map_or (λ (parts : List ℕ × List ℕ). lines_of parts.0) o 1) is

due_uncut : (text : List ℕ) → cut 10 text ≡ None → lines_due text ≡ 1
due_uncut text is = ap (λ o. option_map_or (λ (parts : List ℕ × List ℕ). lines_of parts.0) o 1) is

-- a longer text has at least as many lines due
pub due_more : (text more : List ℕ) → lines_due text ≤ lines_due (text ++ more)
due_more text more = grind (arith, due_uncut, due_some, due_cut, cut-more)

-- the first line of a complete happening is complete
pub finished_cut : (text : List ℕ) → is_unfinished text ≡ false → (parts : List ℕ × List ℕ) × (cut 10 text ≡ Some parts)
finished_cut text finished = grind (arith, newlines-uncut, due_some, nat_tests)

lt-false : (n d : ℕ) → nat_lt n d ≡ false → d ≤ n
lt-false n d is = grind (arith, nat_tests)

false-lt : (n d : ℕ) → d ≤ n → nat_lt n d ≡ false
false-lt n d is = grind (arith, nat_tests)

-- the table of the first `n` lines, if they are not one, is not one in a longer text
table_more : (n : ℕ) (text more : List ℕ) → n ≤ newlines text → table_begun n text ≡ None
    → table_begun n (text ++ more) ≡ None
table_more n text more enough none = sym whole where
  rest : List ℕ
  rest = (after_lines-some n text enough).0

  after : after_lines n text ≡ Some rest
  after = (after_lines-some n text enough).1

  front : Front n text rest
  front = after_lines-front n text rest after

  begun_at : (t r : List ℕ) → after_lines n t ≡ Some r → table_begun n t
      ≡ option_map {U = List Entry × List ℕ} (λ table. (table, r)) (table_written (take (length t - length r) t))
  begun_at t r is = ap (λ o. option_and_then {U = List Entry × List ℕ} (λ behind. option_map {U = List Entry × List ℕ}
      (λ table. (table, behind)) (table_written (take (length t - length behind) t))) o) is

  shorter : take (length text - length rest) text ≡ front.front
  shorter = ap (λ t. take (length t - length rest) t) front.whole ∙ take-front front.front rest

  longer : take (length (text ++ more) - length (rest ++ more)) (text ++ more) ≡ front.front
  longer =
      ap (λ t. take (length (t ++ more) - length (rest ++ more)) (t ++ more)) front.whole
      ∙ ap (λ t. take (length t - length (rest ++ more)) t) (append_assoc front.front rest more)
      ∙ take-front front.front (rest ++ more)

  unwritten : (o : Option (List Entry)) → option_map {U = List Entry × List ℕ} (λ table. (table, rest)) o ≡ None
      → option_map {U = List Entry × List ℕ} (λ table. (table, rest ++ more)) o ≡ None
  unwritten o is = grind arith

  written : option_map {U = List Entry × List ℕ} (λ table. (table, rest)) (table_written front.front) ≡ None
  written = ap (λ t. option_map {U = List Entry × List ℕ} (λ table. (table, rest)) (table_written t)) (sym shorter)
      ∙ sym (begun_at text rest after) ∙ none

  whole : None ≡ table_begun n (text ++ more)
  whole = grind (arith, begun_at, rest, after_lines-more, after, longer, unwritten, front, written)

-- if a complete happening is not valid, it is not valid in a longer text either
begun_more : (text more : List ℕ) → is_unfinished text ≡ false → begun text ≡ None → begun (text ++ more) ≡ None
begun_more text more finished none = begun_at (text ++ more) line (rest ++ more) (cut-more text more line rest at)
    ∙ by (entries_brought (words_in line)) refl where
      line : List ℕ
      line = (finished_cut text finished).0.0

      rest : List ℕ
      rest = (finished_cut text finished).0.1

      at : cut 10 text ≡ Some (line, rest)
      at = (finished_cut text finished).1

      begun_at : (t l r : List ℕ) → cut 10 t ≡ Some (l, r) → begun t ≡ begun_by (entries_brought (words_in l)) l r
      begun_at t l r is = ap (λ o. option_and_then
          (λ (parts : List ℕ × List ℕ). begun_by (entries_brought (words_in parts.0)) parts.0 parts.1) o) is

      own : begun_by (entries_brought (words_in line)) line rest ≡ None
      own = sym (begun_at text line rest at) ∙ none

      enough : (count : ℕ) → entries_brought (words_in line) ≡ Some count → count ≤ newlines rest
      enough count is = grind (arith, lt-false, newlines-cut, line, rest, at, due_cut)

      unread : (o : Option Event) → option_map {U = Begun} (λ happening. (happening, rest)) o ≡ None
          → option_map {U = Begun} (λ happening. (happening, rest ++ more)) o ≡ None
      unread o is = grind arith

      unused : (o : Option (List Entry × List ℕ))
          → option_map {U = Begun} (λ parts. (NewTable parts.0, parts.1)) o ≡ None → o ≡ None
      unused o is = grind arith

      by : (o : Option ℕ) → entries_brought (words_in line) ≡ o
          → begun_by (entries_brought (words_in line)) line (rest ++ more) ≡ None
      by None is = grind arith
      by (Some count) is =
          ap (λ o. begun_by o line (rest ++ more)) is
          ∙ ap (λ o. option_map {U = Begun} (λ (parts : List Entry × List ℕ). (NewTable parts.0, parts.1)) o)
          (table_more count rest more (enough count is)
          (unused (table_begun count rest) (ap (λ o. begun_by o line rest) (sym is) ∙ own)))

unbegun : (text : List ℕ) → BeginsNone text → begun text ≡ None
unbegun text none = by (begun text) refl where
  by : (o : Option Begun) → begun text ≡ o → begun text ≡ None
  by None is = is
  by (Some parts) is =
      let begins = text-begun text parts.0 parts.1 is in
      absurd (none parts.0 parts.1 begins.0 begins.1)

pub none_more : (text more : List ℕ) → is_unfinished text ≡ false → BeginsNone text → BeginsNone (text ++ more)
none_more text more finished none = λ happening rest ranged same.
    none-some (happening, rest)
    (sym (begun_more text more finished (unbegun text none)) ∙ ap begun (sym same) ∙ begun-text happening rest ranged)

-- a complete happening that is not valid begins no happening, whatever text follows
pub finished_never : (text : List ℕ) → is_unfinished text ≡ false → BeginsNone text → BeginsNever text
finished_never text finished none = (
  ap (λ b. b && nat_le (length text) (size_limit (newlines text))) finished,
  λ more. none_more text more finished none,
)

-- of two texts with a common continuation, the shorter one is a prefix of the longer one
begins_with : (xs ys zs ws : List ℕ) → xs ++ ys ≡ zs ++ ws → length xs ≤ length zs → (s : List ℕ) × (zs ≡ xs ++ s)
begins_with (x ∷ xs) ys (z ∷ zs) ws same shorter =
    let first : x ≡ z = cc in
    let others : xs ++ ys ≡ zs ++ ws = cc in
    let further = begins_with xs ys zs ws others (omega (arith, shorter)) in
    (further.0, ap (λ t. z ∷ t) further.1 ∙ ap (λ b. b ∷ (xs ++ further.0)) (sym first))
begins_with xs ys zs ws same shorter = grind arith

limit_behind : (n : ℕ) → 1 ≤ n → size_limit n ≡ LINE_LIMIT + TEXT_LIMIT
limit_behind zero some = absurd (omega (arith, some))
limit_behind (suc n) some = refl

-- no happening has a first line of this length
long_line : (text more tail : List ℕ) (h : Event) → cut 10 text ≡ None → size_limit (newlines text) < length text
    → is_in_range h ≡ true → event_text h ++ tail ≡ text ++ more → ⊥
long_line text more tail h whole long is same = omega (
  arith,
  none,
  newlines-line first.line parts.1,
  newlines-append (first.line ++ 10 ∷ []) begins.0,
  ap newlines begins.1,
) where
  none : newlines text ≡ 0
  none = newlines-uncut text whole

  over : LINE_LIMIT < length text
  over = subst (λ n. size_limit n < length text) none long

  first : FirstLine h tail
  first = line_first h tail is

  parts : (event_text h ++ tail ≡ first.line ++ 10 ∷ (table_lines h ++ tail)) × (has_byte 10 first.line ≡ false)
  parts = cut-parts 10 (event_text h ++ tail) first.line (table_lines h ++ tail) first.first

  split : (first.line ++ 10 ∷ []) ++ (table_lines h ++ tail) ≡ text ++ more
  split = append_assoc first.line (10 ∷ []) (table_lines h ++ tail) ∙ sym parts.0 ∙ same

  begins : (s : List ℕ) × (text ≡ (first.line ++ 10 ∷ []) ++ s)
  begins = begins_with (first.line ++ 10 ∷ []) (table_lines h ++ tail) text more split
      (omega (arith, over, first.short, length-append first.line (10 ∷ [])))

-- no happening has this many bytes before its last line is complete
long_table : (text more tail line rest : List ℕ) (h : Event) → cut 10 text ≡ Some (line, rest) → is_unfinished text
    ≡ true → size_limit (newlines text) < length text → is_in_range h ≡ true → event_text h ++ tail ≡ text ++ more → ⊥
long_table text more tail line rest h at cut_off long is same =
    omega (arith, few, due, newlines-event h is, newlines-append (event_text h) begins.0, ap newlines begins.1) where
      few : newlines text < lines_due text
      few = ltb-true (newlines text) (lines_due text) cut_off

      over : LINE_LIMIT + TEXT_LIMIT < length text
      over =
          subst (λ n. n < length text)
          (limit_behind (newlines text) (omega (arith, newlines-cut text line rest at))) long

      first : FirstLine h tail
      first = line_first h tail is

      own : line ≡ first.line
      own = (some_pair_parts line first.line (rest ++ more) (table_lines h ++ tail)
          (sym (cut-more text more line rest at) ∙ ap (cut 10) (sym same) ∙ first.first)).0

      due : lines_due text ≡ line_count h
      due = due_cut text line rest at ∙ ap lines_of own ∙ first.brings

      begins : (s : List ℕ) × (text ≡ event_text h ++ s)
      begins = begins_with (event_text h) tail text more same (omega (arith, over, first.size))

pub long_never : (text : List ℕ) → is_unfinished text ≡ true → size_limit (newlines text) < length text
    → BeginsNever text
long_never text cut_off long = (
  ap (λ b. b && nat_le (length text) (size_limit (newlines text))) cut_off
      ∙ not-le (length text) (size_limit (newlines text)) long,
  λ more h tail is same. by more h tail is same (cut 10 text) refl,
) where
  not-le : (n k : ℕ) → k < n → nat_le n k ≡ false
  not-le n k less = grind (arith, nat_tests)

  by : (more : List ℕ) (h : Event) (tail : List ℕ) → is_in_range h ≡ true → event_text h ++ tail ≡ text ++ more
      → (o : Option (List ℕ × List ℕ)) → cut 10 text ≡ o → ⊥
  by more h tail is same None at = long_line text more tail h at long is same
  by more h tail is same (Some parts) at = long_table text more tail parts.0 parts.1 h at cut_off long is same

pub never_some : (text : List ℕ) → BeginsNever text → 1 ≤ length text
never_some [] never = absurd (cc)
never_some (byte ∷ text) never = omega arith

-- the suffix of a text, by length
drop_front : (front rest : List ℕ) → drop (length (front ++ rest) - length rest) (front ++ rest) ≡ rest
drop_front front rest = short (length (front ++ rest) - length rest) (omega (arith, length-append front rest)) where
  dropped : (xs : List ℕ) → drop (length xs) (xs ++ rest) ≡ rest
  dropped [] = refl
  dropped (x ∷ xs) = dropped xs

  short : (n : ℕ) → n ≡ length front → drop n (front ++ rest) ≡ rest
  short n same = ap (λ k. drop k (front ++ rest)) same ∙ dropped front

pub left_over : (bytes more : List ℕ) (at : ℕ) (happening : Event) → event_text happening ++ more ≡ drop at bytes
    → drop (length bytes - length more) bytes ≡ more
left_over bytes more at happening begins =
    let whole : bytes ≡ (take at bytes ++ event_text happening) ++ more =
    sym (take-append-drop at bytes) ∙ ap (λ t. take at bytes ++ t) (sym begins)
    ∙ sym (append_assoc (take at bytes) (event_text happening) more) in
    ap (λ t. drop (length t - length more) t) whole ∙ drop_front (take at bytes ++ event_text happening) more

-- the newlines of a text that begins with a happening are those of the happening and those of the rest
pub lines_off : (text more : List ℕ) (happening : Event) → is_in_range happening ≡ true
    → event_text happening ++ more ≡ text → newlines text ≡ line_count happening + newlines more
lines_off text more happening is begins = ap newlines (sym begins) ∙ newlines-append (event_text happening) more
    ∙ ap (λ n. n + newlines more) (newlines-event happening is)

pub finished_by : (text : List ℕ) → lines_due text ≤ newlines text → is_unfinished text ≡ false
finished_by text few = false-lt (newlines text) (lines_due text) few

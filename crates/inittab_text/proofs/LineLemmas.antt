-- A written table has one line per entry, and what is read from a text is a table.
use Rattle.inittab_text.proofs.Words.{◌≡◌, ℕ, Bool, true, false, cond, not, ◌==◌, ◌-◌, List, [], ◌∷◌, ◌++◌, length}
use Rattle.inittab_text.proofs.Words.{take, Option, Some, None, Result, refl, sym, ap, ◌∙◌, arith, list_all, bytes_eq}
use Rattle.inittab_text.proofs.Words.{and_parts, and_from, not-true, not_from_false, or_parts, or_from}
use Rattle.inittab_text.proofs.Words.{option_and_then_some, some_pair_parts, Entry, LineKind, has_byte, newlines}
use Rattle.inittab_text.proofs.Words.{after_lines, lines_of, onto_first_line, cut-append, after_lines-front}
use Rattle.inittab_text.proofs.Words.{newlines-append, newlines-line, take-front, verdict_of, entries_after}
use Rattle.inittab_text.proofs.Words.{entries_from, table_of_text, fields_written, text_of, is_written, is_table}
use Rattle.inittab_text.proofs.Words.{table_begun, table_written}
use Rattle.std.proofs.lemmas.List.{append_assoc}
use Rattle.std.specs.Option.{option_map}
use Rattle.inittab_text.proofs.Entries.{table_parts, is_table-push}
use Rattle.inittab_text.proofs.ReadLemmas.{kept_entry, option_map_some}
use Rattle.inittab_text.proofs.WriteLemmas.{one_line, parts, table_written-text, text_of-table_written}

-- a written table has as many newlines as entries
newlines-written : (table : List Entry) → list_all is_written table ≡ true → newlines (text_of table) ≡ length table
newlines-written [] are = grind (arith, newlines-append, newlines-line, one_line, parts)
newlines-written (e ∷ table) are =
    grind (arith, newlines-written table, newlines-append, newlines-line, one_line, parts)

pub newlines-text : (table : List Entry) → is_table table ≡ true → newlines (text_of table) ≡ length table
newlines-text table is = newlines-written table (table_parts table is).2

-- after as many lines as the table has entries comes the text after it
after_written : (table : List Entry) (more : List ℕ) → list_all is_written table ≡ true
    → after_lines (length table) (text_of table ++ more) ≡ Some more
after_written [] more are = refl
after_written (e ∷ table) more are =
    let both = and_parts (is_written e) (list_all is_written table) are in
    let line = fields_written e in
    let regrouped : ((line ++ 10 ∷ []) ++ text_of table) ++ more ≡ line ++ 10 ∷ (text_of table ++ more) =
    append_assoc (line ++ 10 ∷ []) (text_of table) more ∙ append_assoc line (10 ∷ []) (text_of table ++ more) in
    rw (regrouped, cut-append 10 line (text_of table ++ more) (one_line e (parts e both.0)))
    (after_written table more both.1)

pub after_lines-text : (table : List Entry) (more : List ℕ) → is_table table ≡ true
    → after_lines (length table) (text_of table ++ more) ≡ Some more
after_lines-text table more is = after_written table more (table_parts table is).2

-- the lines of a text contain no newline
lacks : List ℕ → Bool
lacks line = not (has_byte 10 line)

onto_lacks : (b : ℕ) (lines : List (List ℕ)) → has_byte 10 (b ∷ []) ≡ false → list_all lacks lines ≡ true
    → list_all lacks (onto_first_line b lines) ≡ true
unfolding lacks
onto_lacks b [] one all = and_from _ _ (not_from_false (has_byte 10 (b ∷ [])) one) refl
onto_lacks b (line ∷ lines) one all =
    let both = and_parts (lacks line) (list_all lacks lines) all in
    let here = (or_parts _ _ one).0 in
    and_from _ _
    (not_from_false (has_byte 10 (b ∷ line)) (or_from _ _ here (not-true (has_byte 10 line) both.0))) both.1

lines_by : (b : ℕ) (text : List ℕ) (x : Bool) → (b == 10) ≡ x → list_all lacks (lines_of text) ≡ true
    → list_all lacks (cond x ([] ∷ lines_of text) (onto_first_line b (lines_of text))) ≡ true
unfolding lacks
lines_by b text true is all = all
lines_by b text false is all = onto_lacks b (lines_of text) (or_from _ _ is refl) all

lines_lack : (text : List ℕ) → list_all lacks (lines_of text) ≡ true
unfolding lacks
lines_lack [] = refl
lines_lack (b ∷ text) = lines_by b text (b == 10) refl (lines_lack text)

-- a table stays a table after another line is read
table_after : (before : List Entry) (line : List ℕ) (v : Result (Option Entry) LineKind) → verdict_of before line ≡ v
    → has_byte 10 line ≡ false → is_table before ≡ true → is_table (entries_after before v) ≡ true
table_after before line v is one table = grind (arith, kept_entry, is_table-push)

table_from_lines : (before : List Entry) (lines : List (List ℕ)) → list_all lacks lines ≡ true → is_table before ≡ true
    → is_table (entries_from before lines) ≡ true
unfolding lacks
table_from_lines before [] all table = table
table_from_lines before (line ∷ lines) all table =
    let both = and_parts (lacks line) (list_all lacks lines) all in
    table_from_lines (entries_after before (verdict_of before line)) lines both.1
    (table_after before line (verdict_of before line) refl (not-true (has_byte 10 line) both.0) table)

-- what is read from a text is a table
pub is_table-read : (text : List ℕ) → is_table (table_of_text text) ≡ true
is_table-read text = table_from_lines [] (lines_of text) (lines_lack text) refl

written_by : (text : List ℕ) (b : Bool) (table : List Entry) → cond b (Some (table_of_text text)) None ≡ Some table
    → is_table table ≡ true
written_by text true table is = grind (arith, is_table-read)
written_by text false table is = absurd (cc)

pub is_table-written : (text : List ℕ) (table : List Entry) → table_written text ≡ Some table → is_table table ≡ true
is_table-written text table is = written_by text (bytes_eq (text_of (table_of_text text)) text) table is

-- a text that begins with a written table is read as this table and the rest
pub begun_back : (table : List Entry) (rest : List ℕ) → is_table table ≡ true
    → table_begun (length table) (text_of table ++ rest) ≡ Some (table, rest)
begun_back table rest is =
    rw (after_lines-text table rest is, take-front (text_of table) rest, table_written-text table is) refl

pub begun_own : (count : ℕ) (text rest : List ℕ) (table : List Entry) → table_begun count text ≡ Some (table, rest)
    → (text_of table ++ rest ≡ text) × (is_table table ≡ true) × (count ≡ length table)
begun_own count text rest table is =
    option_and_then_some (λ more. option_map {U = List Entry × List ℕ} (λ t. (t, more))
    (table_written (take (length text - length more) text))) (after_lines count text) (table, rest) is (λ more at found.
    let front = after_lines-front count text more at in
    let taken : take (length text - length more) text ≡ front.front =
    ap (λ t. take (length t - length more) t) front.whole ∙ take-front front.front more in
    option_map_some {Y = List Entry × List ℕ} (λ t. (t, more)) (table_written (take (length text - length more) text))
    (table, rest) found (λ t was same.
    let both = some_pair_parts t table more rest (ap Some same) in
    let written : table_written front.front ≡ Some table = ap table_written (sym taken) ∙ was ∙ ap Some both.0 in
    let is_one : is_table table ≡ true = is_table-written front.front table written in
    let spelled : text_of table ≡ front.front = text_of-table_written front.front table written in (
      rw (spelled, ← both.1) (sym front.whole),
      is_one,
      sym front.counted ∙ ap newlines (sym spelled) ∙ newlines-text table is_one,
    )))

-- A table that was read has no id twice.
use Rattle.inittab_text.proofs.Words.{arith, ◌≡◌, true, List, [], ◌∷◌, Option, Some, None, Result, Ok, refl, ℕ, Entry}
use Rattle.inittab_text.proofs.Words.{LineKind, entry_of, is_distinct, lines_of, verdict_of, entries_after}
use Rattle.inittab_text.proofs.Words.{entries_from, table_of_text, entries_of_texts, table_of_texts}
use Rattle.inittab_text.proofs.Entries.{is_distinct-push}
use Rattle.inittab_text.proofs.ReadLemmas.{passed}

new_entry : (before : List Entry) (line : List ℕ) (e : Entry) → verdict_of before line ≡ Ok (Some e)
    → entry_of e.id before ≡ None
new_entry before line e is = grind (arith, passed)

distinct_after : (before : List Entry) (v : Result (Option Entry) LineKind) → ((e : Entry) → v ≡ Ok (Some e)
    → entry_of e.id before ≡ None) → is_distinct before ≡ true → is_distinct (entries_after before v) ≡ true
distinct_after before v new distinct = grind (arith, is_distinct-push)

distinct_from : (before : List Entry) (lines : List (List ℕ)) → is_distinct before ≡ true
    → is_distinct (entries_from before lines) ≡ true
distinct_from before [] distinct = distinct
distinct_from before (line ∷ lines) distinct = distinct_from (entries_after before (verdict_of before line)) lines
    (distinct_after before (verdict_of before line) (new_entry before line) distinct)

-- the table of a text has no id twice
pub distinct_text : (text : List ℕ) → is_distinct (table_of_text text) ≡ true
distinct_text text = distinct_from [] (lines_of text) refl

distinct_from_texts : (before : List Entry) (texts : List (List ℕ)) → is_distinct before ≡ true
    → is_distinct (entries_of_texts before texts) ≡ true
distinct_from_texts before [] distinct = distinct
distinct_from_texts before (text ∷ texts) distinct =
    distinct_from_texts (entries_from before (lines_of text)) texts (distinct_from before (lines_of text) distinct)

-- the table of several texts has no id twice
pub distinct_texts : (texts : List (List ℕ)) → is_distinct (table_of_texts texts) ≡ true
distinct_texts texts = distinct_from_texts [] texts refl

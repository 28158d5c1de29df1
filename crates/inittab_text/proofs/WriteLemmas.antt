-- Reading what was written gives the same table.
use Rattle.inittab_text.proofs.Words.{◌≡◌, ◌≢◌, ℕ, zero, suc, ◌+◌, ◌<◌, ◌≤◌, Bool, true, false, cond, not, ◌==◌, ◌&&◌}
use Rattle.inittab_text.proofs.Words.{nat_lt, nat_le, List, [], ◌∷◌, ◌++◌, map, Option, length, Some, None, Ok, refl}
use Rattle.inittab_text.proofs.Words.{sym, ap, ◌∙◌, arith, subst, append-nil, codes, lit<, list_all, IfSome, IfNone}
use Rattle.inittab_text.proofs.Words.{IsUtf8, is_utf8, IsAscii, bytes_eq, none-some, false≢true, or_from, and_parts}
use Rattle.inittab_text.proofs.Words.{and_from, not-true, not_from_false, ltb-true, lt-ltb, leb-true, le-ltb, lt-leb}
use Rattle.inittab_text.proofs.Words.{ne_eqb, eqb-false, length-map, is_utf8-from_IsUtf8, IsUtf8-from_is_utf8}
use Rattle.inittab_text.proofs.Words.{IsUtf8-append, IsUtf8-from_ascii, ENTRY_LIMIT, MARK_LIMIT, Entry, Act, Mark}
use Rattle.inittab_text.proofs.Words.{word_of, ignores_levels, has_process, is_id, is_id_byte, id_parts, mark_code}
use Rattle.inittab_text.proofs.Words.{has_byte, skip_blanks, lines_of, FieldBytes, fields_of, is_ignored, levels_kept}
use Rattle.inittab_text.proofs.Words.{kept_of, is_too_long, is_missing, is_text, checked, entry_of, entries_after}
use Rattle.inittab_text.proofs.Words.{faults_at, entries_from, faults_from, table_of_text, cut-append, lines_of-append}
use Rattle.inittab_text.proofs.Words.{has_byte-append, levels_written, fields_written, text_of, is_empty, has_no_repeat}
use Rattle.inittab_text.proofs.Words.{is_levels, is_process, is_table, table_written}
use Rattle.std.proofs.lemmas.Slice.Eq.{bytes_eq-Decides}
use Rattle.std.proofs.lemmas.List.{append_assoc}
use Rattle.init_words.specs.declared.actions.Act.TheVariants as act
use Rattle.init_words.specs.declared.levels.Level.TheVariants.{L0, L1, L2, L3, L4, L5, L6, L7, L8, L9, S}
use Rattle.init_words.specs.declared.levels.Letter.TheVariants.{A, B, C}
use Rattle.init_words.specs.declared.levels.Mark.TheVariants.{At, OnCall}
use Rattle.init_words.specs.Actions.{act_read}
use Rattle.inittab_text.specs.Checks.{checked_as, verdict_of}
use Rattle.inittab_text.specs.Written.{is_written}
use Rattle.inittab_text.proofs.MarkLemmas.{marks_of-codes}
use Rattle.inittab_text.proofs.Entries.{known}

-- an ASCII byte that is not a colon, a newline or NUL
plain : ℕ → Bool
plain b = nat_lt b 128 && not (b == 58) && not (b == 10) && not (b == 0)

all_plain : List ℕ → Type 0
all_plain bs = list_all plain bs ≡ true

plain_parts : (b : ℕ) → plain b ≡ true → (b < 128) × ((b == 58) ≡ false) × ((b == 10) ≡ false) × ((b == 0) ≡ false)
unfolding plain
plain_parts b is =
    let first = and_parts (nat_lt b 128 && not (b == 58) && not (b == 10)) (not (b == 0)) is in
    let second = and_parts (nat_lt b 128 && not (b == 58)) (not (b == 10)) first.0 in
    let third = and_parts (nat_lt b 128) (not (b == 58)) second.0 in
    (ltb-true b 128 third.0, not-true (b == 58) third.1, not-true (b == 10) second.1, not-true (b == 0) first.1)

plain_from : (b : ℕ) → b < 128 → b ≢ 58 → b ≢ 10 → b ≢ 0 → plain b ≡ true
unfolding plain
plain_from b small colon newline nul =
    rw (lt-ltb b 128 small, ne_eqb b 58 colon, ne_eqb b 10 newline, ne_eqb b 0 nul) refl

-- all fields of a written line except its process are plain
plain_id_byte : (b : ℕ) → is_id_byte b ≡ true → plain b ≡ true
plain_id_byte b is =
    let outer = and_parts (nat_le 33 b && nat_le b 126) (not (b == 58)) is in
    let inner = and_parts (nat_le 33 b) (nat_le b 126) outer.0 in
    let low : 33 ≤ b = leb-true 33 b inner.0 in
    let high : b ≤ 126 = leb-true b 126 inner.1 in
    plain_from b (omega arith) (eqb-false b 58 (not-true (b == 58) outer.1)) (λ same. omega arith) (λ same. omega arith)

plain_id : (bs : List ℕ) → list_all is_id_byte bs ≡ true → all_plain bs
unfolding all_plain
plain_id [] is = refl
plain_id (b ∷ bs) is =
    let parts = and_parts (is_id_byte b) (list_all is_id_byte bs) is in
    and_from (plain b) (list_all plain bs) (plain_id_byte b parts.0) (plain_id bs parts.1)

plain_mark : (m : Mark) → plain (mark_code m) ≡ true
unfolding plain
plain_mark (At L0) = refl
plain_mark (At L1) = refl
plain_mark (At L2) = refl
plain_mark (At L3) = refl
plain_mark (At L4) = refl
plain_mark (At L5) = refl
plain_mark (At L6) = refl
plain_mark (At L7) = refl
plain_mark (At L8) = refl
plain_mark (At L9) = refl
plain_mark (At S) = refl
plain_mark (OnCall A) = refl
plain_mark (OnCall B) = refl
plain_mark (OnCall C) = refl

plain_marks : (ms : List Mark) → all_plain (map mark_code ms)
unfolding all_plain
plain_marks [] = refl
plain_marks (m ∷ ms) =
    and_from (plain (mark_code m)) (list_all plain (map mark_code ms)) (plain_mark m) (plain_marks ms)

plain_none : (b : Bool) → all_plain (cond b [] (codes "-"))
unfolding all_plain plain
plain_none true = refl
plain_none false = refl

plain_levels : (a : Act) (ms : List Mark) → all_plain (levels_written a ms)
plain_levels a [] = plain_none (ignores_levels a)
plain_levels a (m ∷ ms) = plain_marks (m ∷ ms)

plain_word : (a : Act) → all_plain (word_of a)
unfolding all_plain plain
plain_word act.Sysinit = refl
plain_word act.Boot = refl
plain_word act.Bootwait = refl
plain_word act.Wait = refl
plain_word act.Once = refl
plain_word act.Respawn = refl
plain_word act.Ondemand = refl
plain_word act.Powerwait = refl
plain_word act.Powerfail = refl
plain_word act.Powerokwait = refl
plain_word act.Powerfailnow = refl
plain_word act.Off = refl
plain_word act.Initdefault = refl
plain_word act.Ctrlaltdel = refl
plain_word act.Kbrequest = refl

-- plain bytes contain no colon, newline or NUL
no_colon : (bs : List ℕ) → all_plain bs → has_byte 58 bs ≡ false
unfolding all_plain
no_colon [] is = refl
no_colon (b ∷ bs) is =
    let parts = and_parts (plain b) (list_all plain bs) is in
    or_from (b == 58) (has_byte 58 bs) (plain_parts b parts.0).1 (no_colon bs parts.1)

no_newline : (bs : List ℕ) → all_plain bs → has_byte 10 bs ≡ false
unfolding all_plain
no_newline [] is = refl
no_newline (b ∷ bs) is =
    let parts = and_parts (plain b) (list_all plain bs) is in
    or_from (b == 10) (has_byte 10 bs) (plain_parts b parts.0).2 (no_newline bs parts.1)

no_nul : (bs : List ℕ) → all_plain bs → has_byte 0 bs ≡ false
unfolding all_plain
no_nul [] is = refl
no_nul (b ∷ bs) is =
    let parts = and_parts (plain b) (list_all plain bs) is in
    or_from (b == 0) (has_byte 0 bs) (plain_parts b parts.0).3 (no_nul bs parts.1)

ascii : (bs : List ℕ) → all_plain bs → IsAscii bs
unfolding all_plain
ascii [] is i = lit< tt
ascii (b ∷ bs) is zero = (plain_parts b (and_parts (plain b) (list_all plain bs) is).0).0
ascii (b ∷ bs) is (suc i) = ascii bs (and_parts (plain b) (list_all plain bs) is).1 i

-- a plain field, a colon and a UTF-8 text without NUL are such a text again
is_text-front : (front rest : List ℕ) → all_plain front → is_text rest ≡ true → is_text (front ++ 58 ∷ rest) ≡ true
is_text-front front rest clean is =
    let parts = and_parts (is_utf8 rest) (not (has_byte 0 rest)) is in
    let colon : IsAscii (58 ∷ []) = colon_ascii in
    let tail : IsUtf8 (58 ∷ rest) =
    IsUtf8-append (58 ∷ []) rest (IsUtf8-from_ascii (58 ∷ []) colon) (IsUtf8-from_is_utf8 rest parts.0) in
    let whole : IsUtf8 (front ++ 58 ∷ rest) =
    IsUtf8-append front (58 ∷ rest) (IsUtf8-from_ascii front (ascii front clean)) tail in
    and_from (is_utf8 (front ++ 58 ∷ rest)) (not (has_byte 0 (front ++ 58 ∷ rest)))
    (is_utf8-from_IsUtf8 (front ++ 58 ∷ rest) whole)
    (not_from_false (has_byte 0 (front ++ 58 ∷ rest))
    (has_byte-append 0 front (58 ∷ rest) (no_nul front clean) (not-true (has_byte 0 rest) parts.1)))
  where
    colon_ascii : IsAscii (58 ∷ [])
    colon_ascii zero = lit< tt
    colon_ascii (suc i) = lit< tt

-- a written line begins with its id, so no blank is skipped and it is not a comment
shown_by : (b : ℕ) (bs rest : List ℕ) → is_id (b ∷ bs) ≡ true
    → (skip_blanks ((b ∷ bs) ++ rest) ≡ (b ∷ bs) ++ rest) × (is_ignored ((b ∷ bs) ++ rest) ≡ false)
shown_by b bs rest is = grind arith

shown : (id rest : List ℕ) → is_id id ≡ true
    → (skip_blanks (id ++ rest) ≡ id ++ rest) × (is_ignored (id ++ rest) ≡ false)
shown [] rest is = absurd (false≢true is)
shown (b ∷ bs) rest is = shown_by b bs rest is

-- the conditions that a written entry meets
pub record Parts (e : Entry) : Type 0 where
  pub id : is_id e.id ≡ true
  pub few : length e.levels.items ≤ MARK_LIMIT
  pub once : has_no_repeat e.levels.items ≡ true
  pub ignored : cond (ignores_levels e.act) (is_empty e.levels.items) true ≡ true
  pub long : is_too_long e.act e.process.items ≡ false
  pub missing : is_missing e.act e.process.items ≡ false
  pub text : is_text e.process.items ≡ true
  pub one : has_byte 10 e.process.items ≡ false
  pub has : cond (has_process e.act) true (is_empty e.process.items) ≡ true

pub parts : (e : Entry) → is_written e ≡ true → Parts e
unfolding is_written
parts e is =
    let ms = e.levels.items in
    let p = e.process.items in
    let a = e.act in
    let outer = and_parts (is_id e.id && is_levels a ms) (is_process a p) is in
    let front = and_parts (is_id e.id) (is_levels a ms) outer.0 in
    let levels = and_parts (nat_le (length ms) MARK_LIMIT && has_no_repeat ms)
    (cond (ignores_levels a) (is_empty ms) true) front.1 in
    let marks = and_parts (nat_le (length ms) MARK_LIMIT) (has_no_repeat ms) levels.0 in
    let whole = and_parts (not (is_too_long a p) && not (is_missing a p) && is_text p && not (has_byte 10 p))
    (cond (has_process a) true (is_empty p)) outer.1 in
    let lines = and_parts (not (is_too_long a p) && not (is_missing a p) && is_text p) (not (has_byte 10 p)) whole.0 in
    let text = and_parts (not (is_too_long a p) && not (is_missing a p)) (is_text p) lines.0 in
    let tests = and_parts (not (is_too_long a p)) (not (is_missing a p)) text.0 in
    record {
      id = front.0;
      few = leb-true (length ms) MARK_LIMIT marks.0;
      once = marks.1;
      ignored = levels.1;
      long = not-true (is_too_long a p) tests.0;
      missing = not-true (is_missing a p) tests.1;
      text = text.1;
      one = not-true (has_byte 10 p) lines.1;
      has = whole.1;
    }

-- the fields of a written line
written : Entry → FieldBytes
written e = record {
  id = e.id;
  levels = levels_written e.act e.levels.items;
  action = word_of e.act;
  process = e.process.items;
}

fields_of-written : (e : Entry) → Parts e → fields_of (fields_written e) ≡ Some (written e)
unfolding written
fields_of-written e h =
    let levels = levels_written e.act e.levels.items in
    let word = word_of e.act in
    let p = e.process.items in
    rw (
      cut-append 58 e.id (levels ++ 58 ∷ (word ++ 58 ∷ p)) (no_colon e.id (plain_id e.id (id_parts e.id h.id).bytes)),
      cut-append 58 levels (word ++ 58 ∷ p) (no_colon levels (plain_levels e.act e.levels.items)),
      cut-append 58 word p (no_colon word (plain_word e.act)),
    ) refl

is_text-written : (e : Entry) → Parts e → is_text (fields_written e) ≡ true
is_text-written e h =
    let levels = levels_written e.act e.levels.items in
    let word = word_of e.act in
    let p = e.process.items in
    is_text-front e.id (levels ++ 58 ∷ (word ++ 58 ∷ p)) (plain_id e.id (id_parts e.id h.id).bytes)
    (is_text-front levels (word ++ 58 ∷ p) (plain_levels e.act e.levels.items)
    (is_text-front word p (plain_word e.act) h.text))

pub one_line : (e : Entry) → Parts e → has_byte 10 (fields_written e) ≡ false
one_line e h =
    let levels = levels_written e.act e.levels.items in
    let word = word_of e.act in
    let p = e.process.items in
    has_byte-append 10 e.id (58 ∷ (levels ++ 58 ∷ (word ++ 58 ∷ p)))
    (no_newline e.id (plain_id e.id (id_parts e.id h.id).bytes))
    (has_byte-append 10 levels (58 ∷ (word ++ 58 ∷ p)) (no_newline levels (plain_levels e.act e.levels.items))
    (has_byte-append 10 word (58 ∷ p) (no_newline word (plain_word e.act)) h.one))

-- the written runlevels are kept as they were
kept_none : (a : Act) (b : Bool) → ignores_levels a ≡ b → levels_kept a (cond b [] (codes "-")) ≡ []
kept_none a true is = rw is refl
kept_none a false is = rw is refl

kept_some : (a : Act) (m : Mark) (ms : List Mark) (b : Bool) → ignores_levels a ≡ b → cond b false true ≡ true
    → has_no_repeat (m ∷ ms) ≡ true → levels_kept a (map mark_code (m ∷ ms)) ≡ m ∷ ms
kept_some a m ms true is ignored once = absurd (false≢true ignored)
kept_some a m ms false is ignored once = rw is (marks_of-codes (m ∷ ms) once)

levels_kept-written : (a : Act) (ms : List Mark) → has_no_repeat ms ≡ true
    → cond (ignores_levels a) (is_empty ms) true ≡ true → levels_kept a (levels_written a ms) ≡ ms
levels_kept-written a [] once ignored = kept_none a (ignores_levels a) refl
levels_kept-written a (m ∷ ms) once ignored = kept_some a m ms (ignores_levels a) refl ignored once

empty_is : (p : List ℕ) → is_empty p ≡ true → [] ≡ p
empty_is p is = grind arith

kept_process : (p : List ℕ) (b : Bool) → cond b true (is_empty p) ≡ true → cond b p [] ≡ p
kept_process p true is = refl
kept_process p false is = empty_is p is

pub length-levels_written : (a : Act) (ms : List Mark) → length ms ≤ MARK_LIMIT
    → length (levels_written a ms) ≤ MARK_LIMIT
length-levels_written a ms few = grind (arith, length-map)

-- the word of an action is read as this action
pub act_back : (a : Act) → act_read (word_of a) ≡ Some a
unfolding act_read
act_back act.Sysinit = refl
act_back act.Boot = refl
act_back act.Bootwait = refl
act_back act.Wait = refl
act_back act.Once = refl
act_back act.Respawn = refl
act_back act.Ondemand = refl
act_back act.Powerwait = refl
act_back act.Powerfail = refl
act_back act.Powerokwait = refl
act_back act.Powerfailnow = refl
act_back act.Off = refl
act_back act.Initdefault = refl
act_back act.Ctrlaltdel = refl
act_back act.Kbrequest = refl

kept_is : (e : Entry) → Parts e → kept_of e.act (written e) ≡ e
unfolding written
kept_is e h = rw
    (levels_kept-written e.act e.levels.items h.once h.ignored, kept_process e.process.items (has_process e.act) h.has)
    refl

checked_as-written : (before : List Entry) (e : Entry) → Parts e → entry_of e.id before ≡ None
    → length before < ENTRY_LIMIT → checked_as e.act before (fields_written e) (written e) ≡ Ok (Some e)
unfolding checked_as written
checked_as-written before e h new room =
    rw (h.long, h.missing, is_text-written e h, new, lt-leb ENTRY_LIMIT (length before) room)
    (ap (λ x. Ok (Some x)) (kept_is e h))

checked-written : (before : List Entry) (e : Entry) → Parts e → entry_of e.id before ≡ None
    → length before < ENTRY_LIMIT → checked before (fields_written e) (Some (written e)) ≡ Ok (Some e)
unfolding written
checked-written before e h new room =
    rw (
      h.id,
      le-ltb MARK_LIMIT (length (levels_written e.act e.levels.items))
          (length-levels_written e.act e.levels.items h.few),
      act_back e.act,
    ) (checked_as-written before e h new room)

-- a written line is read as its entry
pub verdict_of-written : (before : List Entry) (e : Entry) → is_written e ≡ true → entry_of e.id before ≡ None
    → length before < ENTRY_LIMIT → verdict_of before (fields_written e) ≡ Ok (Some e)
unfolding verdict_of
verdict_of-written before e is new room =
    let h = parts e is in
    let front =
    shown e.id (58 ∷ (levels_written e.act e.levels.items ++ 58 ∷ (word_of e.act ++ 58 ∷ e.process.items))) h.id in
    rw (front.0, front.1, fields_of-written e h) (checked-written before e h new room)

-- the lines of a written table
lines_of-text : (e : Entry) (table : List Entry) → is_written e ≡ true
    → lines_of (text_of (e ∷ table)) ≡ fields_written e ∷ lines_of (text_of table)
lines_of-text e table is =
    ap lines_of (append_assoc (fields_written e) (10 ∷ []) (text_of table))
    ∙ lines_of-append (fields_written e) (text_of table) (one_line e (parts e is))

pub entries_from-text : (table before : List Entry) → is_table (before ++ table) ≡ true
    → entries_from before (lines_of (text_of table)) ≡ before ++ table
entries_from-text [] before is = refl_nil
  where
    refl_nil : before ≡ before ++ []
    refl_nil = sym (append-nil before)
entries_from-text (e ∷ table) before is =
    let facts = known before e table is in
    let verdict = verdict_of-written before e facts.0 facts.1 facts.2 in
    let regrouped : (before ++ e ∷ []) ++ table ≡ before ++ e ∷ table = append_assoc before (e ∷ []) table in
    ap (entries_from before) (lines_of-text e table facts.0)
    ∙ ap (λ v. entries_from (entries_after before v) (lines_of (text_of table))) verdict
    ∙ entries_from-text table (before ++ e ∷ []) (subst (λ es. is_table es ≡ true) (sym regrouped) is)
    ∙ regrouped

pub faults_from-text : (table before : List Entry) (number : ℕ) → is_table (before ++ table) ≡ true
    → faults_from before number (lines_of (text_of table)) ≡ []
faults_from-text [] before number is = refl
faults_from-text (e ∷ table) before number is =
    let facts = known before e table is in
    let verdict = verdict_of-written before e facts.0 facts.1 facts.2 in
    let regrouped : (before ++ e ∷ []) ++ table ≡ before ++ e ∷ table = append_assoc before (e ∷ []) table in
    ap (faults_from before number) (lines_of-text e table facts.0)
    ∙ ap
    (λ v. faults_at number v ++ faults_from (entries_after before v) (number + 1) (lines_of (text_of table))) verdict
    ∙ faults_from-text table (before ++ e ∷ []) (number + 1) (subst (λ es. is_table es ≡ true) (sym regrouped) is)

-- the written text of a table is read back as the table
pub table_written-text : (table : List Entry) → is_table table ≡ true → table_written (text_of table) ≡ Some table
table_written-text table is =
    rw (entries_from-text table [] is, (bytes_eq-Decides (text_of table) (text_of table)).1 refl) refl

written_by : (t table : List Entry) (text : List ℕ) (b : Bool) → bytes_eq (text_of t) text ≡ b
    → cond b (Some t) None ≡ Some table → text_of table ≡ text
written_by t table text true same is = grind (arith, bytes_eq-Decides)
written_by t table text false same is = absurd (cc)

-- a table that is read back from a text has this text
pub text_of-table_written : (text : List ℕ) (table : List Entry) → table_written text ≡ Some table
    → text_of table ≡ text
text_of-table_written text table is =
    written_by (table_of_text text) table text (bytes_eq (text_of (table_of_text text)) text) refl is

-- no other table has this text
pub only_written : (text : List ℕ) (got : Option (List Entry)) → got ≡ table_written text → (table : List Entry)
    → is_table table ≡ true → text_of table ≡ text → got ≡ Some table
only_written text got is table valid at = is ∙ ap table_written (sym at) ∙ table_written-text table valid

pub found_written : (text : List ℕ) (got : Option (List Entry)) → got ≡ table_written text
    → IfSome got (λ table. text_of table ≡ text)
found_written text got is = grind (arith, text_of-table_written)

pub none_written : (text : List ℕ) (got : Option (List Entry)) → got ≡ table_written text
    → IfNone got ((table : List Entry) → is_table table ≡ true → text_of table ≢ text)
none_written text got is = grind (arith, none-some, only_written)

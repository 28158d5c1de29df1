-- The written text of a table is not longer than a text may be.
use Rattle.inittab_text.proofs.Words.{◌≡◌, ℕ, suc, ◌+◌, ◌*◌, ◌≤◌, Bool, true, false, cond, ◌&&◌, nat_lt, List, [], ◌∷◌}
use Rattle.inittab_text.proofs.Words.{◌++◌, length, length-append, arith, lit≤, list_all, false≢true, and_parts}
use Rattle.inittab_text.proofs.Words.{ltb-false, MARK_LIMIT, PROCESS_LIMIT, Entry, Act, word_of, has_process, id_parts}
use Rattle.inittab_text.proofs.Words.{TEXT_LIMIT, ENTRY_LIMIT, levels_written, line_of, text_of, is_empty, is_written}
use Rattle.inittab_text.proofs.Words.{is_table}
use Rattle.std.proofs.Math.Nat.{suc-mul, mul-le-mul_right}
use Rattle.init_words.specs.declared.ids.TheConstants.{ID_LIMIT}
use Rattle.init_words.specs.declared.actions.Act.TheVariants as act
use Rattle.inittab_text.proofs.Entries.{table_parts}
use Rattle.inittab_text.proofs.WriteLemmas.{parts, length-levels_written}

-- bounds on the word of an action, and on a line: the four fields, three colons and the newline
word_limit : ℕ
word_limit = 12

line_limit : ℕ
line_limit = ID_LIMIT + MARK_LIMIT + word_limit + PROCESS_LIMIT + 4

word_short : (a : Act) → length (word_of a) ≤ word_limit
unfolding word_limit
word_short act.Sysinit = lit≤ tt
word_short act.Boot = lit≤ tt
word_short act.Bootwait = lit≤ tt
word_short act.Wait = lit≤ tt
word_short act.Once = lit≤ tt
word_short act.Respawn = lit≤ tt
word_short act.Ondemand = lit≤ tt
word_short act.Powerwait = lit≤ tt
word_short act.Powerfail = lit≤ tt
word_short act.Powerokwait = lit≤ tt
word_short act.Powerfailnow = lit≤ tt
word_short act.Off = lit≤ tt
word_short act.Initdefault = lit≤ tt
word_short act.Ctrlaltdel = lit≤ tt
word_short act.Kbrequest = lit≤ tt

-- a process that passes the check is not too long
process_by : (b : Bool) (p : List ℕ) → (b && nat_lt PROCESS_LIMIT (length p)) ≡ false → cond b true (is_empty p) ≡ true
    → length p ≤ PROCESS_LIMIT
process_by true p short has = ltb-false PROCESS_LIMIT (length p) short
process_by false [] short has = lit≤ tt
process_by false (b ∷ p) short has = absurd (false≢true has)

-- four fields, each with a byte after it
sized : {whole first second third i l w p a b c d : ℕ} → whole ≡ first + 1 → first ≡ i + suc second
    → second ≡ l + suc third → third ≡ w + suc p → i ≤ a → l ≤ b → w ≤ c → p ≤ d → whole ≤ a + b + c + d + 4
sized one two three four h1 h2 h3 h4 = omega (arith, one, two, three, four, h1, h2, h3, h4)

line_short : (e : Entry) → is_written e ≡ true → length (line_of e) ≤ line_limit
unfolding line_limit
line_short e is =
    let h = parts e is in
    let levels = levels_written e.act e.levels.items in
    let word = word_of e.act in
    let p = e.process.items in
    sized (length-append (e.id ++ 58 ∷ (levels ++ 58 ∷ (word ++ 58 ∷ p))) (10 ∷ []))
    (length-append e.id (58 ∷ (levels ++ 58 ∷ (word ++ 58 ∷ p))))
    (length-append levels (58 ∷ (word ++ 58 ∷ p)))
    (length-append word (58 ∷ p))
    (id_parts e.id h.id).few (length-levels_written e.act e.levels.items h.few) (word_short e.act)
    (process_by (has_process e.act) p h.long h.has)

-- one more line
longer : (whole line rest n k : ℕ) → whole ≡ line + rest → line ≤ k → rest ≤ n * k → whole ≤ suc n * k
longer whole line rest n k is here there = rw (suc-mul n k) (omega (arith, is, here, there))

at_least : (n : ℕ) → 0 ≤ n
at_least n = omega arith

lines_short : (table : List Entry) → list_all is_written table ≡ true
    → length (text_of table) ≤ length table * line_limit
lines_short [] all = at_least _
lines_short (e ∷ table) all =
    let both = and_parts (is_written e) (list_all is_written table) all in
    longer (length (text_of (e ∷ table))) (length (line_of e)) (length (text_of table)) (length table) line_limit
    (length-append (line_of e) (text_of table)) (line_short e both.0) (lines_short table both.1)

-- the maximum number of lines of the maximum length fits
fits : ENTRY_LIMIT * line_limit ≤ TEXT_LIMIT
unfolding line_limit word_limit
fits = lit≤ tt

pub text_short : (table : List Entry) → is_table table ≡ true → length (text_of table) ≤ TEXT_LIMIT
text_short table is =
    let facts = table_parts table is in
    within (lines_short table facts.2) (mul-le-mul_right line_limit facts.0) fits
  where
    within : {a b c d : ℕ} → a ≤ b → b ≤ c → c ≤ d → a ≤ d
    within h1 h2 h3 = omega (arith, h1, h2, h3)

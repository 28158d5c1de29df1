-- Each word of a state text is read exactly, and contains no blank and no newline.
use Rattle.core_text.proofs.CommonWords.{◌≡◌, ◌⊎◌, inl, inr, ℕ, ◌+◌, ◌<◌, ◌≤◌, ◌^◌, Bool, true, false, not, ◌&&◌, ◌==◌}
use Rattle.core_text.proofs.CommonWords.{nat_lt, nat_le, List, [], ◌∷◌, ◌++◌, length, map, find, codes, decimal, Some}
use Rattle.core_text.proofs.CommonWords.{None, refl, sym, ap, ◌∙◌, subst, arith, lit<, list_all, join_with_byte}
use Rattle.core_text.proofs.CommonWords.{and_parts, and_from, or_from, ltb-true, bytes_eq-Decides, option_and_then_some}
use Rattle.core_text.proofs.CommonWords.{same_Some, cut, has_byte, pieces_of, cut-parts, has_byte-append}
use Rattle.core_text.proofs.CommonWords.{pieces_of-joined, Act, Status, Exit, id_parts, OrderKind, Stage, acts, word_of}
use Rattle.core_text.proofs.CommonWords.{id_read, is_id, same_id, same_id-is, option_map_some, act_back, level_word}
use Rattle.core_text.proofs.CommonWords.{order_word, stage_word, is_status, level_of_word, order_of_word}
use Rattle.core_text.proofs.CommonWords.{seconds_of_word, stage_of_word, child_of_word, code_of_word, both_some, choice}
use Rattle.core_text.proofs.CommonWords.{id_own, level_own, named, nothing, order_own, stage_own, STARTS, Stop, Due}
use Rattle.core_text.proofs.CommonWords.{Termed, Killed, Version, V1, V2, holds_id, bit, starts_word, status_word}
use Rattle.core_text.proofs.CommonWords.{stop_word, version_line, are_starts, is_child, is_generation, is_seconds}
use Rattle.core_text.proofs.CommonWords.{is_stop, is_time, all_read, after_prefix, generation_read, id_in_read, one_bit}
use Rattle.core_text.proofs.CommonWords.{signal_read, starts_read, status_read, stop_read, time_read, version_of_line}
use Rattle.std.specs.Str.{bytes_eq}
use Rattle.std.proofs.lemmas.List.Splits.{join_with_byte-slice_split}
use Rattle.text_lines.specs.Numbers.{number_read}
use Rattle.text_lines.proofs.NumberLemmas.{number_read-decimal, decimal-number_read, decimal-lacks}
use Rattle.init_words.specs.declared.children.Status.TheVariants.{Killed as KilledBySignal}
use Rattle.init_words.specs.declared.levels.Level.{Level}
use Rattle.init_words.specs.declared.limits.TheConstants.{GRACE_LIMIT}
use Rattle.init_words.specs.Actions.{act_read}
use Rattle.trace_text.proofs.LineTexts.{lacks_low, level_back, order_back, stage_back}
use Rattle.core_text.proofs.Forms.{Form, Lacks, behind_some, bit_lacks, checked_form, checked_some}

below : (limit n : ℕ) → limit ≤ 2 ^ 64 → nat_lt n limit ≡ true → n < 2 ^ 64
below limit n fits is = omega (arith, ltb-true n limit is, fits)

number_form : (limit : ℕ) → limit ≤ 2 ^ 64 → Form (λ n. nat_lt n limit) decimal (number_read limit)
number_form limit fits = record {
  back = λ n is. number_read-decimal limit n (below limit n fits is) is;
  own = λ word n is. decimal-number_read limit word n is;
}

number_lacks : (byte limit : ℕ) → byte < 48 → limit ≤ 2 ^ 64 → Lacks byte (λ n. nat_lt n limit) decimal
number_lacks byte limit low fits = λ n is. decimal-lacks byte n low (below limit n fits is)

pub time_form : Form is_time decimal time_read
time_form = number_form (2 ^ 64) (omega arith)

pub time_lacks : (byte : ℕ) → byte < 48 → Lacks byte is_time decimal
time_lacks byte low = number_lacks byte (2 ^ 64) low (omega arith)

pub child_form : Form is_child decimal child_of_word
child_form = number_form (2 ^ 32) (lit< tt)

pub child_lacks : (byte : ℕ) → byte < 48 → Lacks byte is_child decimal
child_lacks byte low = number_lacks byte (2 ^ 32) low (lit< tt)

pub seconds_form : Form is_seconds decimal seconds_of_word
seconds_form = number_form (GRACE_LIMIT + 1) (lit< tt)

pub seconds_lacks : (byte : ℕ) → byte < 48 → Lacks byte is_seconds decimal
seconds_lacks byte low = number_lacks byte (GRACE_LIMIT + 1) low (lit< tt)

pub generation_form : Form is_generation decimal generation_read
generation_form = checked_form (λ n. nat_le 1 n) is_time decimal time_read time_form

-- a dash is not a number
dash_lost : (limit n : ℕ) → number_read limit (codes "-") ≡ Some n → limit ≤ 2 ^ 64 → ⊥
dash_lost limit n is fits =
    let own = decimal-number_read limit (codes "-") n is in
    let none : has_byte 45 (decimal n) ≡ false = decimal-lacks 45 n (lit< tt) (below limit n fits own.1) in
    let some : has_byte 45 (decimal n) ≡ true = ap (has_byte 45) own.0 in
    lost (sym none ∙ some)
  where
    lost : false ≡ true → ⊥
    lost e = cc

pub no_number : (limit : ℕ) → limit ≤ 2 ^ 64 → number_read limit (codes "-") ≡ None
no_number limit fits = grind (arith, dash_lost)

pub no_time : time_read (codes "-") ≡ None
no_time = no_number (2 ^ 64) (omega arith)

pub no_child : child_of_word (codes "-") ≡ None
no_child = no_number (2 ^ 32) (lit< tt)

abbrev pub always : {X : Type 0} → X → Bool
always x = true

pub level_form : Form always level_word level_of_word
level_form = record { back = λ level is. level_back level; own = λ word level is. (level_own word level is, refl) }

is_above : (byte : ℕ) → byte < 48 → (level : Level) → has_byte byte (level_word level) ≡ false
is_above byte low level = grind arith

pub level_lacks : (byte : ℕ) → byte < 48 → Lacks byte always level_word
level_lacks byte low = λ level is. is_above byte low level

no_colon : (level : Level) → has_byte 58 (level_word level) ≡ false
no_colon level = grind arith

pub level_lacks_colon : Lacks 58 always level_word
level_lacks_colon = λ level is. no_colon level

pub stage_form : Form always stage_word stage_of_word
stage_form = record { back = λ now is. stage_back now; own = λ word now is. (stage_own word now is, refl) }

pub no_stage : stage_of_word (codes "none") ≡ None
no_stage = refl

stage_plain : (byte : ℕ) → (byte ≡ 10) ⊎ (byte ≡ 32) → (now : Stage) → has_byte byte (stage_word now) ≡ false
stage_plain byte is now = grind arith

pub stage_lacks : (byte : ℕ) → (byte ≡ 10) ⊎ (byte ≡ 32) → Lacks byte always stage_word
stage_lacks byte is = λ now good. stage_plain byte is now

pub order_form : Form always order_word order_of_word
order_form = record { back = λ order is. order_back order; own = λ word order is. (order_own word order is, refl) }

pub no_order : order_of_word (codes "-") ≡ None
no_order = refl

order_plain : (byte : ℕ) → (byte ≡ 10) ⊎ (byte ≡ 32) → (order : OrderKind) → has_byte byte (order_word order) ≡ false
order_plain byte is order = grind arith

pub order_lacks : (byte : ℕ) → (byte ≡ 10) ⊎ (byte ≡ 32) → Lacks byte always order_word
order_lacks byte is = λ order good. order_plain byte is order

pub id_form : Form is_id (λ id. id) id_read
id_form = record { back = λ id is. rw is refl; own = id_own }

pub id_lacks : (byte : ℕ) → byte < 33 → Lacks byte is_id (λ id. id)
id_lacks byte low = λ id is. lacks_low byte id low (id_parts id is).bytes

-- ids within the length limit of a version
pub id_in_form : (v : Version) → Form (λ id. is_id id && holds_id v id) (λ id. id) (id_in_read v)
id_in_form v = checked_form (holds_id v) is_id (λ id. id) id_read id_form

pub id_in_lacks : (v : Version) (byte : ℕ) → byte < 33 → Lacks byte (λ id. is_id id && holds_id v id) (λ id. id)
id_in_lacks v byte low = λ id is. id_lacks byte low id (and_parts (is_id id) (holds_id v id) is).0

version_line_back : (v : Version) → version_of_line (version_line v) ≡ Some v
version_line_back v = grind arith

version_line_own : (word : List ℕ) (v : Version) → version_of_line word ≡ Some v
    → (version_line v ≡ word) × (true ≡ true)
version_line_own word v is =
    named word (version_line V1) _ _ v is (λ same made. let this : V1 ≡ v = same_Some V1 v made in
    subst (λ k. (version_line k ≡ word) × (true ≡ true)) this (sym same, refl)) (λ is.
    named word (version_line V2) _ _ v is (λ same made. let this : V2 ≡ v = same_Some V2 v made in
    subst (λ k. (version_line k ≡ word) × (true ≡ true)) this (sym same, refl)) (nothing v))

pub version_form : Form always version_line version_of_line
version_form = record { back = λ v is. version_line_back v; own = version_line_own }

no_newline : (v : Version) → has_byte 10 (version_line v) ≡ false
no_newline v = grind arith

pub version_lacks : Lacks 10 always version_line
version_lacks = λ v is. no_newline v

one_bit_back : (flag : Bool) → one_bit (bit flag ∷ []) ≡ Some flag
one_bit_back true = refl
one_bit_back false = refl

one_bit_own : (word : List ℕ) (flag : Bool) → one_bit word ≡ Some flag → (bit flag ∷ [] ≡ word) × (true ≡ true)
one_bit_own word flag is = grind arith

pub one_bit_form : Form always (λ flag. bit flag ∷ []) one_bit
one_bit_form = record { back = λ flag is. one_bit_back flag; own = one_bit_own }

pub one_bit_lacks : (byte : ℕ) → (byte ≡ 10) ⊎ (byte ≡ 32) → Lacks byte always (λ flag. bit flag ∷ [])
one_bit_lacks byte is = λ flag good. or_from (bit flag == byte) false (bit_lacks byte flag is) refl

stop_back : (stop : Stop) → is_stop stop ≡ true → stop_read (stop_word stop) ≡ Some stop
stop_back stop is = grind (arith, time_form)

OwnStop : List ℕ → Stop → Type 0
OwnStop word stop = (stop_word stop ≡ word) × (is_stop stop ≡ true)

signal_own : (word : List ℕ) (parts : List ℕ × List ℕ) (stop : Stop) → cut 58 word ≡ Some parts
    → signal_read parts ≡ Some stop → OwnStop word stop
unfolding OwnStop
signal_own word parts stop at is =
    let whole = (cut-parts 58 word parts.0 parts.1 at).0 in
    named parts.0 (codes "term") _ _ stop is (λ same made. option_map_some Termed (time_read parts.1) stop made
    (λ time found this. of_name parts.0 (codes "term") same whole (Termed time) this (ap (λ t. codes "term" ++ 58 ∷ t)
    (time_form.own parts.1 time found).0) (time_form.own parts.1 time found).1)) (λ is.
    named parts.0 (codes "kill") _ _ stop is (λ same made. option_map_some Killed (time_read parts.1) stop made
    (λ time found this. of_name parts.0 (codes "kill") same whole (Killed time) this (ap (λ t. codes "kill" ++ 58 ∷ t)
    (time_form.own parts.1 time found).0) (time_form.own parts.1 time found).1)) (nothing stop))
  where
    of_name : (left name : List ℕ) → left ≡ name → word ≡ left ++ 58 ∷ parts.1 → (k : Stop) → k ≡ stop
        → stop_word k ≡ name ++ 58 ∷ parts.1 → is_stop k ≡ true → (stop_word stop ≡ word) × (is_stop stop ≡ true)
    of_name left name same whole k this spelled good = grind arith

stop_own : (word : List ℕ) (stop : Stop) → stop_read word ≡ Some stop → (stop_word stop ≡ word) × (is_stop stop ≡ true)
unfolding OwnStop
stop_own word stop is =
    named word (codes "due") _ _ stop is (λ same made. let this : Due ≡ stop = same_Some Due stop made in
    subst (λ s. (stop_word s ≡ word) × (is_stop s ≡ true)) this (sym same, refl)) (λ is.
    option_and_then_some signal_read (cut 58 word) stop is (λ parts at found. signal_own word parts stop at found))

pub stop_form : Form is_stop stop_word stop_read
stop_form = record { back = stop_back; own = stop_own }

pub no_stop : stop_read (codes "-") ≡ None
no_stop = refl

stop_plain : (byte : ℕ) → (byte ≡ 10) ⊎ (byte ≡ 32) → (stop : Stop) → is_stop stop ≡ true
    → has_byte byte (stop_word stop) ≡ false
stop_plain byte is stop good = grind (arith, time_lacks)

pub stop_lacks : (byte : ℕ) → (byte ≡ 10) ⊎ (byte ≡ 32) → Lacks byte is_stop stop_word
stop_lacks byte is = λ stop good. stop_plain byte is stop good

-- how a child ended
code_form : Form (λ n. nat_lt n 256) decimal (number_read 256)
code_form = number_form 256 (lit< tt)

code_lacks : (byte : ℕ) → byte < 48 → Lacks byte (λ n. nat_lt n 256) decimal
code_lacks byte low = number_lacks byte 256 low (lit< tt)

status_back : (status : Status) → is_status status ≡ true → status_read (status_word status) ≡ Some status
status_back status is = grind (arith, code_form)

status_own : (word : List ℕ) (status : Status) → status_read word ≡ Some status
    → (status_word status ≡ word) × (is_status status ≡ true)
status_own word status is =
    named word (codes "killed") _ _ status is
    (λ same made. let this : KilledBySignal ≡ status = same_Some KilledBySignal status made in
    subst (λ s. (status_word s ≡ word) × (is_status s ≡ true)) this (sym same, refl)) (λ is.
    option_and_then_some code_of_word (after_prefix (codes "exit") 58 word) status is (λ rest at found.
    behind_some (codes "exit") 58 word rest at (λ whole.
    option_map_some Exit (number_read 256 rest) status found (λ code was this.
    let own = code_form.own rest code was in
    subst (λ s. (status_word s ≡ word) × (is_status s ≡ true)) this
    (ap (λ t. codes "exit" ++ 58 ∷ t) own.0 ∙ whole, own.1)))))

pub status_form : Form is_status status_word status_read
status_form = record { back = status_back; own = status_own }

pub no_status : status_read (codes "-") ≡ None
no_status = refl

status_plain : (byte : ℕ) → (byte ≡ 10) ⊎ (byte ≡ 32) → (status : Status) → is_status status ≡ true
    → has_byte byte (status_word status) ≡ false
status_plain byte is status good = grind (arith, code_lacks)

pub status_lacks : (byte : ℕ) → (byte ≡ 10) ⊎ (byte ≡ 32) → Lacks byte is_status status_word
status_lacks byte is = λ status good. status_plain byte is status good

found_word : (word : List ℕ) (among : List Act) (a : Act) → find (λ b. bytes_eq (word_of b) word) among ≡ Some a
    → word_of a ≡ word
found_word word [] a is = nothing a is
found_word word (b ∷ among) a is = choice (bytes_eq (word_of b) word) (Some b)
    (find (λ b. bytes_eq (word_of b) word) among) a is (λ holds at. let same : b ≡ a = same_Some b a at in
    subst (λ c. word_of c ≡ word) same ((bytes_eq-Decides (word_of b) word).0 holds)) (found_word word among a)

act_own : (word : List ℕ) (a : Act) → act_read word ≡ Some a → word_of a ≡ word
unfolding act_read
act_own word a is = found_word word acts a is

pub act_form : Form always word_of act_read
act_form = record { back = λ a is. act_back a; own = λ word a is. (act_own word a is, refl) }

pub no_act : act_read (codes "-") ≡ None
unfolding act_read
no_act = refl

act_plain : (a : Act) → (has_byte 10 (word_of a) ≡ false) × (has_byte 32 (word_of a) ≡ false)
act_plain a = grind arith

pub act_lacks : (byte : ℕ) → (byte ≡ 10) ⊎ (byte ≡ 32) → Lacks byte always word_of
act_lacks byte is = λ a good. elim is [ inl e ↦ rw e (act_plain a).0 | inr e ↦ rw e (act_plain a).1 ]

-- times, separated by commas
times_back : (times : List ℕ) → list_all is_time times ≡ true → all_read time_read (map decimal times) ≡ Some times
times_back [] are = grind (arith, time_form)
times_back (time ∷ times) are = grind (arith, times_back times, time_form)

times_own : (words : List (List ℕ)) (times : List ℕ) → all_read time_read words ≡ Some times
    → (map decimal times ≡ words) × (list_all is_time times ≡ true)
times_own [] times is = let this : [] ≡ times = same_Some [] times is in
    subst (λ ts. (map decimal ts ≡ []) × (list_all is_time ts ≡ true)) this (refl, refl)
times_own (word ∷ words) times is =
    both_some ◌∷◌ (time_read word) (all_read time_read words) times is (λ time more at found this.
    let one = time_form.own word time at in
    let rest = times_own words more found in
    subst (λ ts. (map decimal ts ≡ word ∷ words) × (list_all is_time ts ≡ true)) this
    (rw (one.0, rest.0) refl, and_from (is_time time) (list_all is_time more) one.1 rest.1))

no_commas : (byte : ℕ) (times : List ℕ) → byte < 48 → list_all is_time times ≡ true
    → list_all (λ w. not (has_byte byte w)) (map decimal times) ≡ true
no_commas byte [] low are = grind (arith, time_lacks)
no_commas byte (time ∷ times) low are = grind (arith, no_commas byte times, time_lacks)

joined_lacks : (byte : ℕ) (times : List ℕ) → byte < 48 → (44 == byte) ≡ false → list_all is_time times ≡ true
    → has_byte byte (join_with_byte 44 (map decimal times)) ≡ false
joined_lacks byte (time ∷ next ∷ times) low other are =
    let parts = and_parts (is_time time) (list_all is_time (next ∷ times)) are in
    has_byte-append byte (decimal time) (44 ∷ join_with_byte 44 (map decimal (next ∷ times))) (time_lacks byte low time
    parts.0) (or_from (44 == byte) _ other (joined_lacks byte (next ∷ times) low other parts.1))
joined_lacks byte times low other are = grind (arith, time_lacks, is_time)

starts_back : (times : List ℕ) → are_starts times ≡ true → starts_read (starts_word times) ≡ Some times
starts_back [] are = refl
starts_back (time ∷ times) are =
    let parts = and_parts (nat_le (length (time ∷ times)) STARTS) (list_all is_time (time ∷ times)) are in
    let word = join_with_byte 44 (map decimal (time ∷ times)) in
    let lacks : has_byte 45 word ≡ false = joined_lacks 45 (time ∷ times) (lit< tt) refl parts.1 in
    let other : same_id word (codes "-") ≡ false = undashed word lacks in
    let pieces : pieces_of 44 word ≡ map decimal (time ∷ times) =
    pieces_of-joined 44 (decimal time) (map decimal times) (no_commas 44 (time ∷ times) (lit< tt) parts.1) in
    rw (other, pieces, times_back (time ∷ times) parts.1, parts.0) refl
  where
    undashed : (word : List ℕ) → has_byte 45 word ≡ false → same_id word (codes "-") ≡ false
    undashed word lacks = by (same_id word (codes "-")) refl
      where
        lost : false ≡ true → ⊥
        lost e = cc

        by : (b : Bool) → same_id word (codes "-") ≡ b → b ≡ false
        by true same = absurd (lost (sym lacks ∙ ap (has_byte 45) (same_id-is word (codes "-") same)))
        by false same = refl

starts_own : (word : List ℕ) (times : List ℕ) → starts_read word ≡ Some times
    → (starts_word times ≡ word) × (are_starts times ≡ true)
starts_own word times is =
    named word (codes "-") _ _ times is (λ same made. let this : [] ≡ times = same_Some [] times made in
    subst (λ ts. (starts_word ts ≡ word) × (are_starts ts ≡ true)) this (sym same, refl)) (λ is.
    checked_some (λ ts. nat_le (length ts) STARTS) (all_read time_read (pieces_of 44 word)) times is (λ found few.
    let own = times_own (pieces_of 44 word) times found in (
      spelled times (ap (join_with_byte 44) own.0 ∙ join_with_byte-slice_split 44 word) own.0,
      and_from (nat_le (length times) STARTS) (list_all is_time times) few own.1,
    )))
  where
    spelled : (ts : List ℕ) → join_with_byte 44 (map decimal ts) ≡ word → map decimal ts ≡ pieces_of 44 word
        → starts_word ts ≡ word
    spelled ts whole pieces = grind arith

pub starts_form : Form are_starts starts_word starts_read
starts_form = record { back = starts_back; own = starts_own }

pub starts_lacks : (byte : ℕ) → (byte ≡ 10) ⊎ (byte ≡ 32) → Lacks byte are_starts starts_word
starts_lacks byte is = lacks
  where
    plain : (times : List ℕ) → are_starts times ≡ true
        → (has_byte 10 (starts_word times) ≡ false) × (has_byte 32 (starts_word times) ≡ false)
    plain [] are = (refl, refl)
    plain (time ∷ times) are =
        let parts = and_parts (nat_le (length (time ∷ times)) STARTS) (list_all is_time (time ∷ times)) are in
        (joined_lacks 10 (time ∷ times) (lit< tt) refl parts.1, joined_lacks 32 (time ∷ times) (lit< tt) refl parts.1)

    lacks : (times : List ℕ) → are_starts times ≡ true → has_byte byte (starts_word times) ≡ false
    lacks times are = elim is [
      | inl e ↦ subst (λ b. has_byte b (starts_word times) ≡ false) (sym e) (plain times are).0
      | inr e ↦ subst (λ b. has_byte b (starts_word times) ≡ false) (sym e) (plain times are).1
    ]

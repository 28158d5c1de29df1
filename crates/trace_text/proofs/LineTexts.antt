-- The text of a happening is read as that happening, and what is read from a text is printed as that text.
use Rattle.trace_text.proofs.CommonWords.{◌≡◌, ℕ, ◌+◌, ◌*◌, ◌-◌, ◌<◌, ◌≤◌, ◌^◌, Bool, true, false, cond, not, ◌&&◌}
use Rattle.trace_text.proofs.CommonWords.{nat_lt, nat_le, List, [], ◌∷◌, ◌++◌, length, Option, Some, None, refl, sym}
use Rattle.trace_text.proofs.CommonWords.{ap, ◌∙◌, arith, codes, decimal, subst, append-nil, length-append, lit<}
use Rattle.trace_text.proofs.CommonWords.{option_map, option_map_or, and_parts, and_from, ltb-true, leb-true, le-leb}
use Rattle.trace_text.proofs.CommonWords.{lt-ltb, not-true, decimal_digit, length-decimal-le, append_assoc}
use Rattle.trace_text.proofs.CommonWords.{option_and_then_some, some_pair_parts, cut, has_byte, newlines, cut-parts}
use Rattle.trace_text.proofs.CommonWords.{cut-append, has_byte-append, pieces_of-joined, newlines-append, newlines-line}
use Rattle.trace_text.proofs.CommonWords.{number_read-decimal, decimal-number_read, decimal-lacks, Status, Exit, Killed}
use Rattle.trace_text.proofs.CommonWords.{Level, Letter, Stage, OrderKind, Start, Look, Term, Kill, PowerKind}
use Rattle.trace_text.proofs.CommonWords.{GRACE_LIMIT, is_id, is_id_byte, same_id, same_id-is, number_read, Cause}
use Rattle.trace_text.proofs.CommonWords.{option_map_some, NewTable, NotRead, Enter, Call, Power, Asked, Hold, Settle}
use Rattle.trace_text.proofs.CommonWords.{Birth, NoBirth, Death, Reaped, Still, NoLook, Hit, Miss, Told, Clock, Nudge}
use Rattle.trace_text.proofs.CommonWords.{Got, Handed, Event, words_of, words_behind, line_of_words, table_lines}
use Rattle.trace_text.proofs.CommonWords.{event_text, level_word, letter_word, stage_word, order_word, power_word}
use Rattle.trace_text.proofs.CommonWords.{cause_number, status_words, got_words, handed_words, is_in_range, is_number}
use Rattle.trace_text.proofs.CommonWords.{is_status, is_request, is_hand_over, Begun, line_count, level_of_word}
use Rattle.trace_text.proofs.CommonWords.{letter_of_word, stage_of_word, order_of_word, power_of_word, cause_of_word}
use Rattle.trace_text.proofs.CommonWords.{words_read, words_in, entries_brought, use_begun, begun_by, begun}
use Rattle.std.specs.List.{list_all, join_with_byte}
use Rattle.std.proofs.lemmas.List.Splits.{join_with_byte-slice_split}
use Rattle.init_words.specs.declared.entries.Entry.{Entry}
use Rattle.init_words.proofs.IdParts.{id_parts}
use Rattle.init_words.specs.declared.levels.Level.TheVariants.{L0, L1, L2, L3, L4, L5, L6, L7, L8, L9, S}
use Rattle.init_words.specs.declared.levels.Letter.TheVariants.{A, B, C}
use Rattle.init_words.specs.declared.stages.Stage.TheVariants as stage
use Rattle.init_words.specs.declared.orders.PowerKind.TheVariants as power
use Rattle.initctl_frame.specs.declared.requests.HeardRequest.{HeardRequest as Request}
use Rattle.initctl_frame.specs.declared.requests.HeardRequest.TheVariants as got
use Rattle.inittab_text.specs.declared.reading.TheConstants.{TEXT_LIMIT}
use Rattle.inittab_text.specs.declared.tables.TheConstants.{ENTRY_LIMIT}
use Rattle.inittab_text.specs.Written.{is_table, table_begun, text_of}
use Rattle.inittab_text.proofs.Entries.{table_parts}
use Rattle.inittab_text.proofs.LineLemmas.{begun_back, begun_own, newlines-text}
use Rattle.inittab_text.proofs.SizeLemmas.{text_short}
use Rattle.trace_events.specs.declared.happenings.Handed.{Handed as HandOver}
use Rattle.trace_events.specs.declared.happenings.Handed.TheVariants as handed
use Rattle.trace_text.specs.declared.reading.TheConstants.{LINE_LIMIT}
use Rattle.trace_text.proofs.LineWords.{words_read-of}

-- The words of a happening's line.

-- a word has no blank and no newline, and at most 20 bytes
clean : List ℕ → Bool
clean word = not (has_byte 32 word) && not (has_byte 10 word) && nat_le (length word) 20

all_clean : List (List ℕ) → Type 0
all_clean words = list_all clean words ≡ true

clean_from : (word : List ℕ) → has_byte 32 word ≡ false → has_byte 10 word ≡ false → length word ≤ 20
    → clean word ≡ true
unfolding clean
clean_from word blank newline short = rw (blank, newline) (le-leb (length word) 20 short)

pub lacks_low : (byte : ℕ) (bytes : List ℕ) → byte < 33 → list_all is_id_byte bytes ≡ true → has_byte byte bytes ≡ false
lacks_low byte [] low are = grind arith
lacks_low byte (b ∷ bytes) low are = grind (arith, lacks_low byte bytes)

clean_id : (id : List ℕ) → is_id id ≡ true → clean id ≡ true
clean_id id is =
    let parts = id_parts id is in
    clean_from id (lacks_low 32 id (lit< tt) parts.bytes) (lacks_low 10 id (lit< tt) parts.bytes)
    (omega (arith, parts.few))

clean_number : (n : ℕ) → n < 2 ^ 64 → clean (decimal n) ≡ true
clean_number n small = clean_from (decimal n) (decimal-lacks 32 n (lit< tt) small) (decimal-lacks 10 n (lit< tt) small)
    (length-decimal-le 20 n (omega arith) (omega arith) small)

clean_level : (level : Level) → clean (level_word level) ≡ true
unfolding clean
clean_level L0 = refl
clean_level L1 = refl
clean_level L2 = refl
clean_level L3 = refl
clean_level L4 = refl
clean_level L5 = refl
clean_level L6 = refl
clean_level L7 = refl
clean_level L8 = refl
clean_level L9 = refl
clean_level S = refl

clean_letter : (letter : Letter) → clean (letter_word letter) ≡ true
unfolding clean
clean_letter A = refl
clean_letter B = refl
clean_letter C = refl

clean_stage : (now : Stage) → clean (stage_word now) ≡ true
unfolding clean
clean_stage stage.Sysinit = refl
clean_stage stage.Boot = refl
clean_stage (stage.Run level) = clean_level level

clean_order : (order : OrderKind) → clean (order_word order) ≡ true
unfolding clean
clean_order Start = refl
clean_order Look = refl
clean_order Term = refl
clean_order Kill = refl

clean_power : (kind : PowerKind) → clean (power_word kind) ≡ true
unfolding clean
clean_power power.Fail = refl
clean_power power.FailNow = refl
clean_power power.Ok = refl

small_cause : (why : Cause) → cause_number why < 10
small_cause why = grind arith

below : (n limit : ℕ) → nat_lt n limit ≡ true → limit ≤ 2 ^ 64 → n < 2 ^ 64
below n limit is fits = omega (arith, ltb-true n limit is)

-- lists of words, built one word at a time
one_more : (word : List ℕ) (words : List (List ℕ)) → clean word ≡ true → all_clean words → all_clean (word ∷ words)
unfolding all_clean
one_more word words here more = and_from (clean word) (list_all clean words) here more

none_more : all_clean []
unfolding all_clean
none_more = refl

named_id : (name id : List ℕ) → clean name ≡ true → is_id id ≡ true → all_clean (name ∷ id ∷ [])
named_id name id own is = one_more name (id ∷ []) own (one_more id [] (clean_id id is) none_more)

clean_got : (request : Request) → is_request request ≡ true → all_clean (got_words request)
unfolding clean
clean_got (got.Level level seconds) is =
    one_more (codes "level") _ refl (one_more (level_word level) _ (clean_level level)
    (one_more (decimal seconds) [] (clean_number seconds (below seconds (GRACE_LIMIT + 1) is (omega arith))) none_more))
clean_got (got.Call letter) is =
    one_more (codes "call") _ refl (one_more (letter_word letter) [] (clean_letter letter) none_more)
clean_got got.Reload is = one_more (codes "reload") [] refl none_more
clean_got got.Reexec is = one_more (codes "reexec") [] refl none_more
clean_got (got.Power kind) is =
    one_more (codes "power") _ refl (one_more (power_word kind) [] (clean_power kind) none_more)
clean_got (got.Nothing why) is = one_more (codes "nothing") _ refl (one_more (decimal (cause_number why)) []
    (clean_number (cause_number why) (omega (arith, small_cause why))) none_more)

clean_handed : (how : HandOver) → is_hand_over how ≡ true → all_clean (handed_words how)
unfolding clean
clean_handed handed.Whole is = one_more (codes "whole") [] refl none_more
clean_handed (handed.Cut bytes) is = one_more (codes "cut") _ refl
    (one_more (decimal bytes) [] (clean_number bytes (below bytes (2 ^ 64) is (omega arith))) none_more)
clean_handed (handed.Older generation) is = one_more (codes "older") _ refl
    (one_more (decimal generation) [] (clean_number generation (below generation (2 ^ 64) is (omega arith))) none_more)
clean_handed handed.Failed is = one_more (codes "none") [] refl none_more

clean_status : (status : Status) → is_status status ≡ true → all_clean (status_words status)
unfolding clean
clean_status (Exit code) is = one_more (codes "exit") _ refl
    (one_more (decimal code) [] (clean_number code (below code 256 is (omega arith))) none_more)
clean_status Killed is = one_more (codes "killed") [] refl none_more

clean_words : (h : Event) → is_in_range h ≡ true → all_clean (words_of h)
unfolding clean
clean_words (NewTable table) is = one_more (codes "use") _ refl (one_more (decimal (length table)) []
    (clean_number (length table) (omega (arith, (table_parts table is).0))) none_more)
clean_words NotRead is = one_more (codes "notread") [] refl none_more
clean_words (Enter now seconds) is = one_more (codes "enter") _ refl (one_more (stage_word now) _ (clean_stage now)
    (one_more (decimal seconds) [] (clean_number seconds (below seconds (GRACE_LIMIT + 1) is (omega arith))) none_more))
clean_words (Call letter) is =
    one_more (codes "call") _ refl (one_more (letter_word letter) [] (clean_letter letter) none_more)
clean_words (Power kind) is =
    one_more (codes "power") _ refl (one_more (power_word kind) [] (clean_power kind) none_more)
clean_words (Asked id order) is = one_more (codes "ask") _ refl
    (one_more id _ (clean_id id is) (one_more (order_word order) [] (clean_order order) none_more))
clean_words (Hold id) is = named_id (codes "hold") id refl is
clean_words (Settle level) is =
    one_more (codes "settle") _ refl (one_more (level_word level) [] (clean_level level) none_more)
clean_words (Birth id number) is =
    let parts = and_parts (is_id id) (is_number number) is in
    one_more (codes "birth") _ refl (one_more id _ (clean_id id parts.0)
    (one_more (decimal number) [] (clean_number number (below number (2 ^ 32) parts.1 (omega arith))) none_more))
clean_words (NoBirth id) is = named_id (codes "nobirth") id refl is
clean_words (Death number) is = one_more (codes "death") _ refl
    (one_more (decimal number) [] (clean_number number (below number (2 ^ 32) is (omega arith))) none_more)
clean_words (Reaped id number status) is =
    let outer = and_parts (is_id id && is_number number) (is_status status) is in
    let parts = and_parts (is_id id) (is_number number) outer.0 in
    one_more (codes "reaped") _ refl (one_more id _ (clean_id id parts.0) (one_more (decimal number) _
    (clean_number number (below number (2 ^ 32) parts.1 (omega arith))) (clean_status status outer.1)))
clean_words (Still id) is = named_id (codes "still") id refl is
clean_words (NoLook id) is = named_id (codes "nolook") id refl is
clean_words (Hit id) is = named_id (codes "hit") id refl is
clean_words (Miss id) is = named_id (codes "miss") id refl is
clean_words (Told id) is = named_id (codes "told") id refl is
clean_words (Clock reading) is = one_more (codes "clock") _ refl
    (one_more (decimal reading) [] (clean_number reading (below reading (2 ^ 64) is (omega arith))) none_more)
clean_words Nudge is = one_more (codes "nudge") [] refl none_more
clean_words (Got request) is = one_more (codes "got") _ refl (clean_got request is)
clean_words (Handed how) is = one_more (codes "handed") _ refl (clean_handed how is)

-- The words are read as the happening.

pub level_back : (level : Level) → level_of_word (level_word level) ≡ Some level
level_back level = grind arith

letter_back : (letter : Letter) → letter_of_word (letter_word letter) ≡ Some letter
letter_back letter = grind arith

pub stage_back : (now : Stage) → stage_of_word (stage_word now) ≡ Some now
stage_back now = grind arith

pub order_back : (order : OrderKind) → order_of_word (order_word order) ≡ Some order
order_back order = grind arith

power_back : (kind : PowerKind) → power_of_word (power_word kind) ≡ Some kind
power_back kind = grind arith

cause_back : (why : Cause) → cause_of_word (decimal (cause_number why)) ≡ Some why
cause_back why = grind (arith, decimal_digit)

-- how the words of a happening are read: those of a new table as its number of entries, all others as the happening
abbrev Said : Event → Type 0
Said (NewTable table) = entries_brought (words_of (NewTable table)) ≡ Some (length table)
Said h = (entries_brought (words_of h) ≡ None) × (words_read (words_of h) ≡ Some h)

got_said : (request : Request) → is_request request ≡ true → Said (Got request)
got_said (got.Level level seconds) is = (
  refl,
  rw (
    level_back level,
    number_read-decimal (GRACE_LIMIT + 1) seconds (below seconds (GRACE_LIMIT + 1) is (omega arith)) is,
  ) refl,
)
got_said (got.Call letter) is = (refl, rw (letter_back letter) refl)
got_said got.Reload is = (refl, refl)
got_said got.Reexec is = (refl, refl)
got_said (got.Power kind) is = (refl, rw (power_back kind) refl)
got_said (got.Nothing why) is = (refl, rw (cause_back why) refl)

handed_said : (how : HandOver) → is_hand_over how ≡ true → Said (Handed how)
handed_said handed.Whole is = (refl, refl)
handed_said (handed.Cut bytes) is =
    (refl, rw (number_read-decimal (2 ^ 64) bytes (below bytes (2 ^ 64) is (omega arith)) is) refl)
handed_said (handed.Older generation) is =
    (refl, rw (number_read-decimal (2 ^ 64) generation (below generation (2 ^ 64) is (omega arith)) is) refl)
handed_said handed.Failed is = (refl, refl)

reaped_said : (id : List ℕ) (number : ℕ) (status : Status) → is_id id ≡ true → is_number number ≡ true
    → is_status status ≡ true → Said (Reaped id number status)
reaped_said id number (Exit code) own counted is = (
  refl,
  rw (
    own,
    number_read-decimal (2 ^ 32) number (below number (2 ^ 32) counted (omega arith)) counted,
    number_read-decimal 256 code (below code 256 is (omega arith)) is,
  ) refl,
)
reaped_said id number Killed own counted is =
    (refl, rw (own, number_read-decimal (2 ^ 32) number (below number (2 ^ 32) counted (omega arith)) counted) refl)

said : (h : Event) → is_in_range h ≡ true → Said h
said (NewTable table) is =
    let few : nat_lt (length table) (ENTRY_LIMIT + 1) ≡ true =
    lt-ltb (length table) (ENTRY_LIMIT + 1) (omega (arith, (table_parts table is).0)) in
    number_read-decimal (ENTRY_LIMIT + 1) (length table) (below (length table) (ENTRY_LIMIT + 1) few (omega arith)) few
said NotRead is = (refl, refl)
said (Enter now seconds) is = (
  refl,
  rw (
    stage_back now,
    number_read-decimal (GRACE_LIMIT + 1) seconds (below seconds (GRACE_LIMIT + 1) is (omega arith)) is,
  )
      refl,
)
said (Call letter) is = (refl, rw (letter_back letter) refl)
said (Power kind) is = (refl, rw (power_back kind) refl)
said (Asked id order) is = (refl, rw (is, order_back order) refl)
said (Hold id) is = (refl, rw is refl)
said (Settle level) is = (refl, rw (level_back level) refl)
said (Birth id number) is =
    let parts = and_parts (is_id id) (is_number number) is in
    (refl, rw (parts.0, number_read-decimal (2 ^ 32) number (below number (2 ^ 32) parts.1 (omega arith)) parts.1) refl)
said (NoBirth id) is = (refl, rw is refl)
said (Death number) is =
    (refl, rw (number_read-decimal (2 ^ 32) number (below number (2 ^ 32) is (omega arith)) is) refl)
said (Reaped id number status) is =
    let outer = and_parts (is_id id && is_number number) (is_status status) is in
    let parts = and_parts (is_id id) (is_number number) outer.0 in
    reaped_said id number status parts.0 parts.1 outer.1
said (Still id) is = (refl, rw is refl)
said (NoLook id) is = (refl, rw is refl)
said (Hit id) is = (refl, rw is refl)
said (Miss id) is = (refl, rw is refl)
said (Told id) is = (refl, rw is refl)
said (Clock reading) is =
    (refl, rw (number_read-decimal (2 ^ 64) reading (below reading (2 ^ 64) is (omega arith)) is) refl)
said Nudge is = (refl, refl)
said (Got request) is = got_said request is
said (Handed how) is = handed_said how is

-- The text of a happening is its line, followed by the lines of its table.

-- words that are each preceded by a blank are words joined by blanks
behind_joined : (word : List ℕ) (words : List (List ℕ)) → word ++ words_behind words ≡ join_with_byte 32 (word ∷ words)
behind_joined word [] = append-nil word
behind_joined word (next ∷ words) = ap (λ t. word ++ 32 ∷ t) (behind_joined next words)

line_joined : (word : List ℕ) (words : List (List ℕ))
    → line_of_words (word ∷ words) ≡ join_with_byte 32 (word ∷ words) ++ 10 ∷ []
line_joined word words = ap (λ t. t ++ 10 ∷ []) (behind_joined word words)

-- a happening's line has at least one word
abbrev Spoken : Event → Type 0
Spoken h = (name : List ℕ) × (words : List (List ℕ)) × (words_of h ≡ name ∷ words)

spoken : (h : Event) → Spoken h
spoken (NewTable table) = (codes "use", _, refl)
spoken NotRead = (codes "notread", _, refl)
spoken (Enter now seconds) = (codes "enter", _, refl)
spoken (Call letter) = (codes "call", _, refl)
spoken (Power kind) = (codes "power", _, refl)
spoken (Asked id order) = (codes "ask", _, refl)
spoken (Hold id) = (codes "hold", _, refl)
spoken (Settle level) = (codes "settle", _, refl)
spoken (Birth id number) = (codes "birth", _, refl)
spoken (NoBirth id) = (codes "nobirth", _, refl)
spoken (Death number) = (codes "death", _, refl)
spoken (Reaped id number status) = (codes "reaped", _, refl)
spoken (Still id) = (codes "still", _, refl)
spoken (NoLook id) = (codes "nolook", _, refl)
spoken (Hit id) = (codes "hit", _, refl)
spoken (Miss id) = (codes "miss", _, refl)
spoken (Told id) = (codes "told", _, refl)
spoken (Clock reading) = (codes "clock", _, refl)
spoken Nudge = (codes "nudge", _, refl)
spoken (Got request) = (codes "got", _, refl)
spoken (Handed how) = (codes "handed", _, refl)

-- the line of these words, and a text that begins with it
line : List (List ℕ) → List ℕ
line words = join_with_byte 32 words

line_text : (h : Event) → line_of_words (words_of h) ≡ line (words_of h) ++ 10 ∷ []
unfolding line
line_text h =
    let own = spoken h in
    rw own.2 (line_joined own.0 own.1)

text_begins : (h : Event) (more : List ℕ) → event_text h ++ more ≡ line (words_of h) ++ 10 ∷ (table_lines h ++ more)
text_begins h more =
    ap (λ t. (t ++ table_lines h) ++ more) (line_text h)
    ∙ append_assoc (line (words_of h) ++ 10 ∷ []) (table_lines h) more
    ∙ append_assoc (line (words_of h)) (10 ∷ []) (table_lines h ++ more)

-- words joined by blanks contain no newline, are the pieces of their line, and are not too long
unblank : (word : List ℕ) → clean word ≡ true
    → (has_byte 32 word ≡ false) × (has_byte 10 word ≡ false) × (length word ≤ 20)
unfolding clean
unblank word is =
    let sized = and_parts (not (has_byte 32 word) && not (has_byte 10 word)) (nat_le (length word) 20) is in
    let parts = and_parts (not (has_byte 32 word)) (not (has_byte 10 word)) sized.0 in
    (not-true (has_byte 32 word) parts.0, not-true (has_byte 10 word) parts.1, leb-true (length word) 20 sized.1)

no_newline : (word : List ℕ) (words : List (List ℕ)) → all_clean (word ∷ words)
    → has_byte 10 (join_with_byte 32 (word ∷ words)) ≡ false
unfolding all_clean
no_newline word [] are = (unblank word (and_parts (clean word) true are).0).1
no_newline word (next ∷ words) are =
    let parts = and_parts (clean word) (list_all clean (next ∷ words)) are in
    has_byte-append 10 word (32 ∷ join_with_byte 32 (next ∷ words)) (unblank word parts.0).1
    (no_newline next words parts.1)

no_blanks : (words : List (List ℕ)) → all_clean words → list_all (λ w. not (has_byte 32 w)) words ≡ true
unfolding all_clean
no_blanks [] are = refl
no_blanks (word ∷ words) are =
    let parts = and_parts (clean word) (list_all clean words) are in
    and_from (not (has_byte 32 word)) _ (ap not (unblank word parts.0).0) (no_blanks words parts.1)

joined_short : (word : List ℕ) (words : List (List ℕ)) → all_clean (word ∷ words)
    → length (join_with_byte 32 (word ∷ words)) ≤ length (word ∷ words) * 21
unfolding all_clean
joined_short word [] are = omega (arith, (unblank word (and_parts (clean word) true are).0).2)
joined_short word (next ∷ words) are =
    let parts = and_parts (clean word) (list_all clean (next ∷ words)) are in
    omega (
      arith,
      (unblank word parts.0).2,
      joined_short next words parts.1,
      length-append word (32 ∷ join_with_byte 32 (next ∷ words)),
    )

few_words : (h : Event) → length (words_of h) ≤ 5
few_words h = grind arith

line_lacks : (h : Event) → is_in_range h ≡ true → has_byte 10 (line (words_of h)) ≡ false
unfolding line
line_lacks h is =
    let own = spoken h in
    rw own.2 (no_newline own.0 own.1 (subst all_clean own.2 (clean_words h is)))

line_pieces : (h : Event) → is_in_range h ≡ true → words_in (line (words_of h)) ≡ words_of h
unfolding line
line_pieces h is =
    let own = spoken h in
    rw own.2 (pieces_of-joined 32 own.0 own.1 (no_blanks (own.0 ∷ own.1) (subst all_clean own.2 (clean_words h is))))

line_short : (h : Event) → is_in_range h ≡ true → length (line (words_of h)) ≤ 105
unfolding line
line_short h is =
    let own = spoken h in
    let few : length (own.0 ∷ own.1) ≤ 5 = subst (λ words. length words ≤ 5) own.2 (few_words h) in
    let short = joined_short own.0 own.1 (subst all_clean own.2 (clean_words h is)) in
    rw own.2 (omega (arith, few, short))

-- the first line of a text that begins with a happening
first_line : (h : Event) (more : List ℕ) → is_in_range h ≡ true
    → cut 10 (event_text h ++ more) ≡ Some (line (words_of h), table_lines h ++ more)
first_line h more is =
    ap (cut 10) (text_begins h more) ∙ cut-append 10 (line (words_of h)) (table_lines h ++ more) (line_lacks h is)

-- that line is short, and so is the text of the happening
pub record FirstLine (h : Event) (more : List ℕ) : Type 0 where
  pub line : List ℕ
  pub first : cut 10 (event_text h ++ more) ≡ Some (line, table_lines h ++ more)
  pub brings : option_map_or (λ count. count + 1) (entries_brought (words_in line)) 1 ≡ line_count h
  pub short : length line ≤ LINE_LIMIT
  pub size : length (event_text h) ≤ LINE_LIMIT + TEXT_LIMIT

table_short : (h : Event) → is_in_range h ≡ true → length (table_lines h) ≤ TEXT_LIMIT
table_short h is = grind (arith, text_short)

brings : (h : Event) → Said h → option_map_or (λ count. count + 1) (entries_brought (words_of h)) 1 ≡ line_count h
brings h own = grind arith

pub line_first : (h : Event) (more : List ℕ) → is_in_range h ≡ true → FirstLine h more
line_first h more is = record {
  line = line (words_of h);
  first = first_line h more is;
  brings =
      ap (λ words. option_map_or (λ count. count + 1) (entries_brought words) 1) (line_pieces h is)
      ∙ brings h (said h is);
  short = omega (arith, line_short h is);
  size = omega (
    arith,
    line_short h is,
    table_short h is,
    ap length (line_text h),
    length-append (line (words_of h)) (10 ∷ []),
    length-append (line_of_words (words_of h)) (table_lines h),
  );
}

-- the happening that begins a text is found
table_found : (table : List Entry) (more : List ℕ) → is_table table ≡ true
    → use_begun (length table) (text_of table ++ more) ≡ Some (NewTable table, more)
table_found table more is = ap (option_map {U = Begun} (λ (parts : List Entry × List ℕ). (NewTable parts.0, parts.1)))
    (begun_back table more is)

by_words : (h : Event) (more : List ℕ) → (entries_brought (words_of h) ≡ None) × (words_read (words_of h) ≡ Some h)
    → is_in_range h ≡ true
    → begun_by (entries_brought (words_in (line (words_of h)))) (line (words_of h)) more ≡ Some (h, more)
by_words h more own is = rw (line_pieces h is, own.0, line_pieces h is, own.1) refl

found_by : (h : Event) (more : List ℕ) → is_in_range h ≡ true → Said h → begun_by
    (entries_brought (words_in (line (words_of h)))) (line (words_of h)) (table_lines h ++ more) ≡ Some (h, more)
found_by (NewTable table) more is own = rw (line_pieces (NewTable table) is, own) (table_found table more is)
found_by NotRead more is own = by_words NotRead more own is
found_by (Enter now seconds) more is own = by_words (Enter now seconds) more own is
found_by (Call letter) more is own = by_words (Call letter) more own is
found_by (Power kind) more is own = by_words (Power kind) more own is
found_by (Asked id order) more is own = by_words (Asked id order) more own is
found_by (Hold id) more is own = by_words (Hold id) more own is
found_by (Settle level) more is own = by_words (Settle level) more own is
found_by (Birth id number) more is own = by_words (Birth id number) more own is
found_by (NoBirth id) more is own = by_words (NoBirth id) more own is
found_by (Death number) more is own = by_words (Death number) more own is
found_by (Reaped id number status) more is own = by_words (Reaped id number status) more own is
found_by (Still id) more is own = by_words (Still id) more own is
found_by (NoLook id) more is own = by_words (NoLook id) more own is
found_by (Hit id) more is own = by_words (Hit id) more own is
found_by (Miss id) more is own = by_words (Miss id) more own is
found_by (Told id) more is own = by_words (Told id) more own is
found_by (Clock reading) more is own = by_words (Clock reading) more own is
found_by Nudge more is own = by_words Nudge more own is
found_by (Got request) more is own = by_words (Got request) more own is
found_by (Handed how) more is own = by_words (Handed how) more own is

pub begun-text : (h : Event) (more : List ℕ) → is_in_range h ≡ true → begun (event_text h ++ more) ≡ Some (h, more)
begun-text h more is = rw (first_line h more is) (found_by h more is (said h is))

-- The happening that is found begins the text.

-- no words are read as a new table
pub no_use : (given : List ℕ) → words_read (codes "use" ∷ given ∷ []) ≡ None
no_use given = grind arith

abbrev Lineless : Event → List (List ℕ) → Type 0
Lineless h words = words_of h ≡ words → words_read words ≡ Some h → table_lines h ≡ []

lineless : (h : Event) (words : List (List ℕ)) → Lineless h words
lineless (NewTable table) words spoken read =
    absurd (never (sym (no_use (decimal (length table))) ∙ ap words_read spoken ∙ read))
  where
    never : ◌≡◌ {A = Option Event} None (Some (NewTable table)) → ⊥
    never is = cc
lineless _ words spoken read = refl

abbrev Begins : Event → List ℕ → List ℕ → Type 0
Begins h more text = (is_in_range h ≡ true) × (event_text h ++ more ≡ text)

-- a line is made up of its words
rejoined : (first : List ℕ) (words : List (List ℕ)) → words_in first ≡ words → line words ≡ first
unfolding line
rejoined first words is = ap (join_with_byte 32) (sym is) ∙ join_with_byte-slice_split 32 first

words_begin : (first rest : List ℕ) (h : Event) → words_read (words_in first) ≡ Some h
    → Begins h rest (first ++ 10 ∷ rest)
words_begin first rest h is =
    let own = words_read-of (words_in first) h is in
    let none : table_lines h ≡ [] = lineless h (words_in first) own.0 is in (
      own.1,
      text_begins h rest ∙ ap (λ t. line (words_of h) ++ 10 ∷ (t ++ rest)) none
          ∙ ap (λ t. t ++ 10 ∷ rest) (rejoined first (words_of h) (sym own.0)),
    )

-- the words of a `use` line
use_words : (words : List (List ℕ)) (count : ℕ) → entries_brought words ≡ Some count
    → words ≡ codes "use" ∷ decimal count ∷ []
use_words (word ∷ given ∷ []) count is = by (same_id word (codes "use")) refl is
  where
    by : (b : Bool) → same_id word (codes "use") ≡ b → cond b (number_read (ENTRY_LIMIT + 1) given) None ≡ Some count
        → word ∷ given ∷ [] ≡ codes "use" ∷ decimal count ∷ []
    by true same read =
        rw (same_id-is word (codes "use") same, (decimal-number_read (ENTRY_LIMIT + 1) given count read).0) refl
    by false same read = absurd (cc)
use_words words count is = grind arith

table_begins : (first rest : List ℕ) (count : ℕ) (h : Event) (more : List ℕ) → entries_brought (words_in first)
    ≡ Some count → use_begun count rest ≡ Some (h, more) → Begins h more (first ++ 10 ∷ rest)
table_begins first rest count h more brought is =
    option_map_some {Y = Begun} (λ (parts : List Entry × List ℕ). (NewTable parts.0, parts.1)) (table_begun count rest)
    (h, more) is (λ parts at made.
    let table : List Entry = parts.0 in
    let same = some_pair_parts (NewTable table) h parts.1 more (ap Some made) in
    let own = begun_own count rest parts.1 table at in
    let spelled : words_of (NewTable table) ≡ words_in first =
    ap (λ n. codes "use" ∷ decimal n ∷ []) (sym own.2) ∙ sym (use_words (words_in first) count brought) in
    let begins : event_text (NewTable table) ++ parts.1 ≡ first ++ 10 ∷ rest =
    text_begins (NewTable table) parts.1
    ∙ ap (λ t. t ++ 10 ∷ (text_of table ++ parts.1)) (rejoined first (words_of (NewTable table)) (sym spelled))
    ∙ ap (λ t. first ++ 10 ∷ t) own.0 in
    rw (← same.0, ← same.1) (own.1, begins))

begins_by : (first rest : List ℕ) (o : Option ℕ) (h : Event) (more : List ℕ) → entries_brought (words_in first) ≡ o
    → begun_by o first rest ≡ Some (h, more) → Begins h more (first ++ 10 ∷ rest)
begins_by first rest (Some count) h more brought is = table_begins first rest count h more brought is
begins_by first rest None h more brought is = by (words_read (words_in first)) refl is
  where
    by : (o : Option Event) → words_read (words_in first) ≡ o → option_map {U = Begun}
        (λ happening. (happening, rest)) o ≡ Some (h, more) → Begins h more (first ++ 10 ∷ rest)
    by None was made = absurd (cc)
    by (Some k) was made =
        let same = some_pair_parts k h rest more made in
        rw (← same.0, ← same.1) (words_begin first rest k was)

pub text-begun : (text : List ℕ) (h : Event) (more : List ℕ) → begun text ≡ Some (h, more) → Begins h more text
text-begun text h more is =
    option_and_then_some (λ (parts : List ℕ × List ℕ). begun_by (entries_brought (words_in parts.0)) parts.0 parts.1)
    (cut 10 text) (h, more) is (λ parts at found.
    rw (cut-parts 10 text parts.0 parts.1 at).0
    (begins_by parts.0 parts.1 (entries_brought (words_in parts.0)) h more refl found))

-- the newlines of a happening's text: one, and one for each entry of its table
line_and_more : (h : Event) → is_in_range h ≡ true → newlines (event_text h) ≡ newlines (table_lines h) + 1
line_and_more h is =
    ap (λ t. newlines (t ++ table_lines h)) (line_text h)
    ∙ newlines-append (line (words_of h) ++ 10 ∷ []) (table_lines h)
    ∙ omega (arith, newlines-line (line (words_of h)) (line_lacks h is))

table_newlines : (h : Event) → is_in_range h ≡ true → newlines (table_lines h) + 1 ≡ line_count h
table_newlines h is = grind (arith, newlines-text)

pub newlines-event : (h : Event) → is_in_range h ≡ true → newlines (event_text h) ≡ line_count h
newlines-event h is = line_and_more h is ∙ table_newlines h is

-- Each line of a state text is read exactly, and so are the fields, a record, and a table.
use Rattle.core_text.proofs.CommonWords.{◌≡◌, ◌⊎◌, inl, inr, ℕ, ◌<◌, Bool, true, false, not, ◌&&◌, ◌==◌, List, [], ◌∷◌}
use Rattle.core_text.proofs.CommonWords.{◌++◌, nat_le, append-nil, codes, decimal, Option, Some, None, is_none, subst}
use Rattle.core_text.proofs.CommonWords.{refl, ap, ◌∙◌, arith, lit<, and_parts, and_from, append_assoc, has_byte, Act}
use Rattle.core_text.proofs.CommonWords.{Status, OrderKind, Stage, act_read, word_of, is_id, option_map_some}
use Rattle.core_text.proofs.CommonWords.{level_word, order_word, stage_word, is_status, child_of_word, order_of_word}
use Rattle.core_text.proofs.CommonWords.{stage_of_word, CoreFields, PlainSlot, Version, V1, V2, holds_id, bit}
use Rattle.core_text.proofs.CommonWords.{clock_line, flags_line, generation_line, goal_line, goal_word, head_lines}
use Rattle.core_text.proofs.CommonWords.{or_dash, or_word, slot_line, stage_line, starts_word, status_word, stop_word}
use Rattle.core_text.proofs.CommonWords.{text_of_lines, version_line, wish_line, are_fields, are_starts, is_child}
use Rattle.core_text.proofs.CommonWords.{is_generation, is_goal, is_last_status, is_record, is_seconds, is_stage}
use Rattle.core_text.proofs.CommonWords.{is_stop, is_time, passes, EndWords, FlagWords, LimitWords, MarkWords}
use Rattle.core_text.proofs.CommonWords.{PlaceWords, SlotWords, TimeWords, WishWords, clock_line_read, dash_read}
use Rattle.core_text.proofs.CommonWords.{ends_read, without_status, status_read, starts_read, flags_line_read}
use Rattle.core_text.proofs.CommonWords.{flags_read, four_bits, generation_line_read, generation_read, goal_line_read}
use Rattle.core_text.proofs.CommonWords.{goal_made, goal_read, fields_made, fields_read, limits_read, marks_read}
use Rattle.core_text.proofs.CommonWords.{named_read, one_bit, places_read, reread_read, slot_line_read, slot_made}
use Rattle.core_text.proofs.CommonWords.{slot_words_read, stage_line_read, stage_pair_read, line_read, then_read}
use Rattle.core_text.proofs.CommonWords.{stop_read, table_line_read, end_line_read, three_bits, time_read, times_read}
use Rattle.core_text.proofs.CommonWords.{two_bits, version_of_line, version_read, wish_line_read, wishes_read, list_all}
use Rattle.core_text.proofs.CommonWords.{is_line}
use Rattle.std.proofs.Common.{option_map}
use Rattle.trace_events.specs.declared.steps.Goal.{Goal}
use Rattle.core_text.proofs.Forms.{Form, Front, Lacks, checked_form, first_bit_form, first_bit_lacks, line_front}
use Rattle.core_text.proofs.Forms.{made_form, made_front, named_form, or_form, or_lacks, pair_form, pair_lacks}
use Rattle.core_text.proofs.Forms.{retested, then_front}
use Rattle.core_text.proofs.WordForms.{act_form, act_lacks, always, child_form, child_lacks, generation_form}
use Rattle.core_text.proofs.WordForms.{id_in_form, id_in_lacks, level_form, level_lacks, level_lacks_colon, no_act}
use Rattle.core_text.proofs.WordForms.{no_child, no_order, no_stage, no_status, no_stop, no_time, one_bit_form}
use Rattle.core_text.proofs.WordForms.{one_bit_lacks, order_form, order_lacks, seconds_form, seconds_lacks, stage_form}
use Rattle.core_text.proofs.WordForms.{stage_lacks, starts_form, starts_lacks, status_form, status_lacks, stop_form}
use Rattle.core_text.proofs.WordForms.{stop_lacks, time_form, time_lacks, version_form, version_lacks}

-- a byte that separates words or lines
abbrev Plain : ℕ → Type 0
Plain byte = (byte ≡ 10) ⊎ (byte ≡ 32)

low : (byte : ℕ) → Plain byte → byte < 33
low byte is = elim is [ inl e ↦ omega (arith, e) | inr e ↦ omega (arith, e) ]

lower : (byte : ℕ) → Plain byte → byte < 48
lower byte is = omega (arith, low byte is)

newline : Plain 10
newline = inl refl

blank : Plain 32
blank = inr refl

two_form : Form (λ (p : Bool × Bool). true) (λ p. bit p.0 ∷ bit p.1 ∷ []) two_bits
two_form = first_bit_form always (λ flag. bit flag ∷ []) one_bit one_bit_form

two_lacks : (byte : ℕ) → Plain byte → Lacks byte (λ (p : Bool × Bool). true) (λ p. bit p.0 ∷ bit p.1 ∷ [])
two_lacks byte is = first_bit_lacks byte always (λ flag. bit flag ∷ []) is (one_bit_lacks byte is)

abbrev Three : Type 0
Three = Bool × (Bool × Bool)

abbrev three_word : Three → List ℕ
three_word p = bit p.0 ∷ bit p.1.0 ∷ bit p.1.1 ∷ []

three_form : Form (λ (p : Three). true) three_word three_bits
three_form = first_bit_form (λ (p : Bool × Bool). true) (λ p. bit p.0 ∷ bit p.1 ∷ []) two_bits two_form

three_lacks : (byte : ℕ) → Plain byte → Lacks byte (λ (p : Three). true) three_word
three_lacks byte is =
    first_bit_lacks byte (λ (p : Bool × Bool). true) (λ p. bit p.0 ∷ bit p.1 ∷ []) is (two_lacks byte is)

abbrev Four : Type 0
Four = Bool × Three

abbrev four_word : Four → List ℕ
four_word p = bit p.0 ∷ three_word p.1

four_form : Form (λ (p : Four). true) four_word four_bits
four_form = first_bit_form (λ (p : Three). true) three_word three_bits three_form

four_lacks : (byte : ℕ) → Plain byte → Lacks byte (λ (p : Four). true) four_word
four_lacks byte is = first_bit_lacks byte (λ (p : Three). true) three_word is (three_lacks byte is)

-- the lines of the generation and of the clock
pub generation_line_form : Form is_generation generation_line generation_line_read
generation_line_form = named_form (codes "generation") 32 is_generation decimal generation_read refl generation_form

pub generation_lacks : Lacks 10 is_generation generation_line
generation_lacks = λ n is. time_lacks 10 (lit< tt) n (and_parts (is_time n) (nat_le 1 n) is).0

pub clock_line_form : Form is_time clock_line clock_line_read
clock_line_form = named_form (codes "clock") 32 is_time decimal time_read refl time_form

pub table_line_form : Form is_time (λ n. codes "table" ++ 32 ∷ decimal n) table_line_read
table_line_form = named_form (codes "table") 32 is_time decimal time_read refl time_form

pub end_line_form : Form is_time (λ n. codes "end" ++ 32 ∷ decimal n) end_line_read
end_line_form = named_form (codes "end") 32 is_time decimal time_read refl time_form

stage_tested : (stage : Option Stage) (n : ℕ)
    → (passes always stage && is_seconds n) && is_stage stage n ≡ is_stage stage n
stage_tested stage n = grind arith

abbrev stage_words : (Option Stage × ℕ) → List ℕ
stage_words p = or_word (codes "none") stage_word p.0 ++ 32 ∷ decimal p.1

dash_plain : (byte : ℕ) → Plain byte → has_byte byte (codes "-") ≡ false
dash_plain byte is = elim is [ inl e ↦ rw e refl | inr e ↦ rw e refl ]

stage_pair_form : Form (λ (p : Option Stage × ℕ). is_stage p.0 p.1) stage_words stage_pair_read
stage_pair_form = retested _ _ _ _ (λ p. stage_tested p.0 p.1)
    (checked_form (λ p. is_stage p.0 p.1) _ _ _
    (pair_form 32 _ _ _ _ _ _ (or_form (codes "none") always stage_word stage_of_word no_stage stage_form)
    (or_lacks 32 (codes "none") always stage_word refl (stage_lacks 32 blank)) seconds_form))

stage_pair_lacks : Lacks 10 (λ (p : Option Stage × ℕ). is_stage p.0 p.1) stage_words
stage_pair_lacks = λ p is.
    pair_lacks 10 32 (passes always) (or_word (codes "none") stage_word) is_seconds decimal refl
    (or_lacks 10 (codes "none") always stage_word refl (stage_lacks 10 newline)) (seconds_lacks 10 (lit< tt)) p
    (and_parts (passes always p.0 && is_seconds p.1) (is_stage p.0 p.1) (stage_tested p.0 p.1 ∙ is)).0

pub stage_line_form : Form (λ (p : Option Stage × ℕ). is_stage p.0 p.1) (λ p. stage_line p.0 p.1) stage_line_read
stage_line_form = named_form (codes "stage") 32 _ stage_words stage_pair_read refl stage_pair_form

goal_form : (mark : ℕ) → Lacks mark always level_word
    → Form is_goal (λ (g : Goal). level_word g.level ++ mark ∷ decimal g.grace) (goal_read mark)
goal_form mark lacks =
    made_form goal_made (λ (g : Goal). (g.level, g.grace)) _ is_goal _ _ _ (λ p. refl) (λ g. refl) (λ g. refl)
    (λ g. refl)
    (pair_form mark _ _ _ _ _ _ level_form lacks seconds_form)

goal_lacks : (byte mark : ℕ) → byte < 48 → (mark == byte) ≡ false
    → Lacks byte is_goal (λ (g : Goal). level_word g.level ++ mark ∷ decimal g.grace)
goal_lacks byte mark below other = λ g is. pair_lacks byte mark always level_word is_seconds decimal other
    (level_lacks byte below) (seconds_lacks byte below) (g.level, g.grace) is

pub goal_line_form : Form is_goal goal_line goal_line_read
goal_line_form = named_form (codes "goal") 32 is_goal _ (goal_read 32) refl (goal_form 32 (level_lacks 32 (lit< tt)))

pub flags_line_form : Form (λ (p : Bool × Bool). true) (λ p. flags_line p.0 p.1) flags_line_read
flags_line_form = named_form (codes "flags") 32 _ _ two_bits refl two_form

-- the pending requests
no_goal : goal_read 58 (codes "-") ≡ None
no_goal = refl

reread_form : Form (λ (p : Bool × Bool). not p.1) (λ p. bit p.0 ∷ bit p.1 ∷ []) reread_read
reread_form = checked_form (λ p. not p.1) _ _ _ two_form

reread_lacks : (byte : ℕ) → Plain byte → Lacks byte (λ (p : Bool × Bool). not p.1) (λ p. bit p.0 ∷ bit p.1 ∷ [])
reread_lacks byte is = λ p good. two_lacks byte is p refl

level_wish_form : Form (passes is_goal) (or_dash goal_word) (dash_read (goal_read 58))
level_wish_form = or_form (codes "-") is_goal goal_word (goal_read 58) no_goal (goal_form 58 level_lacks_colon)

level_wish_lacks : (byte : ℕ) → Plain byte → Lacks byte (passes is_goal) (or_dash goal_word)
level_wish_lacks byte is = or_lacks byte (codes "-") is_goal goal_word (dash_plain byte is)
    (goal_lacks byte 58 (lower byte is) (elim is [ inl e ↦ rw e refl | inr e ↦ rw e refl ]))

abbrev is_wish : WishWords → Bool
is_wish w = not w.0.1 && (passes is_goal w.1.0 && true)

abbrev wish_words : WishWords → List ℕ
wish_words w = (bit w.0.0 ∷ bit w.0.1 ∷ []) ++ 32
    ∷ (or_dash goal_word w.1.0 ++ 32 ∷ (three_word w.1.1.0 ++ 32 ∷ three_word w.1.1.1))

wishes_form : Form is_wish wish_words wishes_read
wishes_form =
    pair_form 32 _ _ _ _ _ _ reread_form (reread_lacks 32 blank)
    (pair_form 32 _ _ _ _ _ _ level_wish_form (level_wish_lacks 32 blank)
    (pair_form 32 _ _ _ _ _ _ three_form (three_lacks 32 blank) three_form))

wishes_lacks : Lacks 10 is_wish wish_words
wishes_lacks =
    pair_lacks 10 32 (λ (p : Bool × Bool). not p.1) (λ p. bit p.0 ∷ bit p.1 ∷ [])
    (λ (p : Option Goal × (Three × Three)). passes is_goal p.0 && true)
    (λ p. or_dash goal_word p.0 ++ 32 ∷ (three_word p.1.0 ++ 32 ∷ three_word p.1.1)) refl (reread_lacks 10 newline)
    (pair_lacks 10 32 (passes is_goal) (or_dash goal_word) (λ (p : Three × Three). true)
    (λ p. three_word p.0 ++ 32 ∷ three_word p.1) refl (level_wish_lacks 10 newline)
    (pair_lacks 10 32 (λ (p : Three). true) three_word (λ (p : Three). true) three_word refl (three_lacks 10 newline)
    (three_lacks 10 newline)))

pub wish_line_form : Form is_wish (λ w. codes "wish" ++ 32 ∷ wish_words w) wish_line_read
wish_line_form = named_form (codes "wish") 32 is_wish wish_words wishes_read refl wishes_form

-- the fields
times_front : Front (λ (p : TimeWords). is_generation p.0 && is_time p.1)
    (λ p. (generation_line p.0 ++ 10 ∷ []) ++ (clock_line p.1 ++ 10 ∷ [])) times_read
times_front = then_front _ _ _ _ _ _ (line_front _ _ _ generation_line_form generation_lacks)
    (line_front _ _ _ clock_line_form (time_lacks 10 (lit< tt)))

places_front : Front (λ (p : PlaceWords). is_stage p.0.0 p.0.1 && is_goal p.1)
    (λ p. (stage_line p.0.0 p.0.1 ++ 10 ∷ []) ++ (goal_line p.1 ++ 10 ∷ [])) places_read
places_front = then_front _ _ _ _ _ _ (line_front _ _ _ stage_line_form stage_pair_lacks)
    (line_front _ _ _ goal_line_form (goal_lacks 10 32 (lit< tt) refl))

flags_front : Front (λ (p : FlagWords). true && is_wish p.1)
    (λ p. (flags_line p.0.0 p.0.1 ++ 10 ∷ []) ++ ((codes "wish" ++ 32 ∷ wish_words p.1) ++ 10 ∷ [])) flags_read
flags_front = then_front _ _ _ _ _ _ (line_front _ _ _ flags_line_form (two_lacks 10 newline))
    (line_front _ _ _ wish_line_form wishes_lacks)

abbrev head_parts : CoreFields → TimeWords × (PlaceWords × FlagWords)
head_parts h = (
  (h.generation, h.time),
  (
    ((h.stage, h.grace), h.goal),
    (
      (h.booted, h.announced),
      (
        (h.reread, h.reexec),
        (
          h.level_wish,
          ((h.pending.fail, (h.pending.fail_now, h.pending.ok)), (h.pending.a, (h.pending.b, h.pending.c))),
        ),
      ),
    ),
  ),
)

six_tests : (a b c d e f : Bool) → (a && b) && ((c && d) && (true && (e && (f && true)))) ≡ a && b && c && d && e && f
six_tests false b c d e f = refl
six_tests true false c d e f = refl
six_tests true true false d e f = refl
six_tests true true true false e f = refl
six_tests true true true true false f = refl
six_tests true true true true true false = refl
six_tests true true true true true true = refl

six_lines : (a b c d e f : List ℕ) → (a ++ b) ++ ((c ++ d) ++ (e ++ f)) ≡ a ++ (b ++ (c ++ (d ++ (e ++ (f ++ [])))))
six_lines a b c d e f = grind (arith, append_assoc, append-nil)

pub fields_front : Front are_fields (λ h. text_of_lines (head_lines h)) fields_read
fields_front =
    made_front fields_made head_parts _ are_fields _ (λ h. text_of_lines (head_lines h))
    (then_read times_read (then_read places_read flags_read)) (λ p. refl) (λ h. refl)
    (λ h. six_tests (is_generation h.generation) (is_time h.time) (is_stage h.stage h.grace) (is_goal h.goal)
    (not h.reexec) (passes is_goal h.level_wish))
    (λ h. six_lines (generation_line h.generation ++ 10 ∷ []) (clock_line h.time ++ 10 ∷ [])
    (stage_line h.stage h.grace ++ 10 ∷ []) (goal_line h.goal ++ 10 ∷ []) (flags_line h.booted h.announced ++ 10 ∷ [])
    (wish_line h.reread h.reexec h.level_wish h.pending ++ 10 ∷ []))
    (then_front _ _ _ _ _ _ times_front (then_front _ _ _ _ _ _ places_front flags_front))

-- a record
always_passes : {X : Type 0} (o : Option X) → passes always o ≡ true
always_passes o = grind arith

dashed_act : Form always (or_dash word_of) (dash_read act_read)
dashed_act = retested _ _ _ _ always_passes (or_form (codes "-") always word_of act_read no_act act_form)

dashed_order : Form always (or_dash order_word) (dash_read order_of_word)
dashed_order = retested _ _ _ _ always_passes (or_form (codes "-") always order_word order_of_word no_order order_form)

dashed_stop : Form (passes is_stop) (or_dash stop_word) (dash_read stop_read)
dashed_stop = or_form (codes "-") is_stop stop_word stop_read no_stop stop_form

dashed_time : Form (passes is_time) (or_dash decimal) (dash_read time_read)
dashed_time = or_form (codes "-") is_time decimal time_read no_time time_form

dashed_child : Form (passes is_child) (or_dash decimal) (dash_read child_of_word)
dashed_child = or_form (codes "-") is_child decimal child_of_word no_child child_form

act_or_lacks : (byte : ℕ) → Plain byte → Lacks byte always (or_dash word_of)
act_or_lacks byte is =
    λ o good. or_lacks byte (codes "-") always word_of (dash_plain byte is) (act_lacks byte is) o (always_passes o)

order_or_lacks : (byte : ℕ) → Plain byte → Lacks byte always (or_dash order_word)
order_or_lacks byte is =
    λ o good. or_lacks byte (codes "-") always order_word (dash_plain byte is) (order_lacks byte is) o (always_passes o)

stop_or_lacks : (byte : ℕ) → Plain byte → Lacks byte (passes is_stop) (or_dash stop_word)
stop_or_lacks byte is = or_lacks byte (codes "-") is_stop stop_word (dash_plain byte is) (stop_lacks byte is)

time_or_lacks : (byte : ℕ) → Plain byte → Lacks byte (passes is_time) (or_dash decimal)
time_or_lacks byte is = or_lacks byte (codes "-") is_time decimal (dash_plain byte is) (time_lacks byte (lower byte is))

child_or_lacks : (byte : ℕ) → Plain byte → Lacks byte (passes is_child) (or_dash decimal)
child_or_lacks byte is =
    or_lacks byte (codes "-") is_child decimal (dash_plain byte is) (child_lacks byte (lower byte is))

dashed_status : Form (passes is_status) (or_dash status_word) (dash_read status_read)
dashed_status = or_form (codes "-") is_status status_word status_read no_status status_form

status_or_lacks : (byte : ℕ) → Plain byte → Lacks byte (passes is_status) (or_dash status_word)
status_or_lacks byte is = or_lacks byte (codes "-") is_status status_word (dash_plain byte is) (status_lacks byte is)

-- its last starts, and how its last child ended
abbrev is_ends : Version → EndWords → Bool
is_ends v w = are_starts w.0 && is_last_status v w.1

abbrev end_words : Version → EndWords → List ℕ
end_words V1 w = starts_word w.0
end_words V2 w = starts_word w.0 ++ 32 ∷ or_dash status_word w.1

old_back : (starts : List ℕ) (last : Option Status) → are_starts starts ≡ true → is_none last ≡ true
    → option_map without_status (starts_read (starts_word starts)) ≡ Some (starts, last)
old_back starts last are none = grind (arith, starts_form)

ends_form : (v : Version) → Form (is_ends v) (end_words v) (ends_read v)
ends_form V1 = record {
  back = λ w is. let parts = and_parts (are_starts w.0) (is_none w.1) is in old_back w.0 w.1 parts.0 parts.1;
  own = λ text w is. option_map_some without_status (starts_read text) w is (λ starts found this.
      let own = starts_form.own text starts found in
      subst (λ (q : EndWords). (starts_word q.0 ≡ text) × (are_starts q.0 && is_none q.1 ≡ true)) this
      (own.0, and_from (are_starts starts) true own.1 refl));
}
ends_form V2 = pair_form 32 _ _ _ _ _ _ starts_form (starts_lacks 32 blank) dashed_status

ends_lacks : (v : Version) → Lacks 10 (is_ends v) (end_words v)
ends_lacks V1 = λ w is. starts_lacks 10 newline w.0 (and_parts (are_starts w.0) (is_none w.1) is).0
ends_lacks V2 = pair_lacks 10 32 are_starts starts_word (passes is_status) (or_dash status_word) refl
    (starts_lacks 10 newline) (status_or_lacks 10 newline)

module _ (v : Version) where
  abbrev is_limits : LimitWords → Bool
  is_limits w = passes is_time w.0 && is_ends v w.1

  abbrev limit_words : LimitWords → List ℕ
  limit_words w = or_dash decimal w.0 ++ 32 ∷ end_words v w.1

  limits_form : Form is_limits limit_words (limits_read v)
  limits_form = pair_form 32 _ _ _ _ _ _ dashed_time (time_or_lacks 32 blank) (ends_form v)

  abbrev is_marks : MarkWords → Bool
  is_marks w = passes is_stop w.0 && is_limits w.1.1

  abbrev mark_words : MarkWords → List ℕ
  mark_words w = or_dash stop_word w.0 ++ 32 ∷ (four_word w.1.0 ++ 32 ∷ limit_words w.1.1)

  marks_form : Form is_marks mark_words (marks_read v)
  marks_form = pair_form 32 _ _ _ _ _ _ dashed_stop (stop_or_lacks 32 blank)
      (pair_form 32 _ _ _ _ _ _ four_form (four_lacks 32 blank) limits_form)

  abbrev is_own : List ℕ → Bool
  is_own id = is_id id && holds_id v id

  abbrev is_slot : SlotWords → Bool
  is_slot w = is_own w.0 && (passes is_child w.1.0 && is_marks w.1.1.1.1)

  abbrev slot_words : SlotWords → List ℕ
  slot_words w = w.0 ++ 32 ∷ (or_dash decimal w.1.0 ++ 32
      ∷ (or_dash word_of w.1.1.0 ++ 32 ∷ (or_dash order_word w.1.1.1.0 ++ 32 ∷ mark_words w.1.1.1.1)))

  slot_words_form : Form is_slot slot_words (slot_words_read v)
  slot_words_form =
      pair_form 32 _ _ _ _ _ _ (id_in_form v) (id_in_lacks v 32 (lit< tt))
      (pair_form 32 _ _ _ _ _ _ dashed_child (child_or_lacks 32 blank)
      (pair_form 32 _ _ _ _ _ _ dashed_act (act_or_lacks 32 blank)
      (pair_form 32 _ _ _ _ _ _ dashed_order (order_or_lacks 32 blank) marks_form)))

  limits_lacks : Lacks 10 is_limits limit_words
  limits_lacks = pair_lacks 10 32 (passes is_time) (or_dash decimal) (is_ends v) (end_words v) refl
      (time_or_lacks 10 newline) (ends_lacks v)

  marks_lacks : Lacks 10 is_marks mark_words
  marks_lacks =
      pair_lacks 10 32 (passes is_stop) (or_dash stop_word) (λ (p : Four × LimitWords). is_limits p.1)
      (λ p. four_word p.0 ++ 32 ∷ limit_words p.1) refl (stop_or_lacks 10 newline)
      (pair_lacks 10 32 (λ (p : Four). true) four_word is_limits limit_words refl (four_lacks 10 newline) limits_lacks)

  slot_words_lacks : Lacks 10 is_slot slot_words
  slot_words_lacks =
      pair_lacks 10 32 is_own (λ id. id) (λ (p : Option ℕ × (Option Act × (Option OrderKind × MarkWords))).
      passes is_child p.0 && is_marks p.1.1.1) (λ p. or_dash decimal p.0 ++ 32 ∷ (or_dash word_of p.1.0 ++ 32
      ∷ (or_dash order_word p.1.1.0 ++ 32 ∷ mark_words p.1.1.1))) refl (id_in_lacks v 10 (lit< tt))
      (pair_lacks 10 32 (passes is_child) (or_dash decimal)
      (λ (p : Option Act × (Option OrderKind × MarkWords)). is_marks p.1.1) (λ p. or_dash word_of p.0 ++ 32
      ∷ (or_dash order_word p.1.0 ++ 32 ∷ mark_words p.1.1)) refl (child_or_lacks 10 newline)
      (pair_lacks 10 32 always (or_dash word_of) (λ (p : Option OrderKind × MarkWords). is_marks p.1)
      (λ p. or_dash order_word p.0 ++ 32 ∷ mark_words p.1) refl (act_or_lacks 10 newline)
      (pair_lacks 10 32 always (or_dash order_word) is_marks mark_words refl (order_or_lacks 10 newline) marks_lacks)))

abbrev slot_parts : PlainSlot → SlotWords
slot_parts r = (
  r.id,
  (
    r.child,
    (r.act, (r.order, (r.stop, ((r.asked, (r.called, (r.look, r.missed))), (r.held_until, (r.starts.items, r.last)))))),
  ),
)

five_tests : (a b c d e : Bool) → a && (b && (c && (d && e))) ≡ a && b && c && d && e
five_tests false b c d e = refl
five_tests true false c d e = refl
five_tests true true false d e = refl
five_tests true true true false e = refl
five_tests true true true true e = refl

slot_tested : (v : Version) (r : PlainSlot) → is_slot v (slot_parts r) ≡ is_record v r
slot_tested v r = five_tests (is_id r.id && holds_id v r.id) (passes is_child r.child) (passes is_stop r.stop)
    (passes is_time r.held_until) (are_starts r.starts.items && is_last_status v r.last)

slot_written : (v : Version) (r : PlainSlot) → codes "slot" ++ 32 ∷ slot_words v (slot_parts r) ≡ slot_line v r
slot_written v r = grind arith

pub slot_line_form : (v : Version) → Form (is_record v) (slot_line v) (slot_line_read v)
slot_line_form v =
    made_form slot_made slot_parts (is_slot v) (is_record v) (λ w. codes "slot" ++ 32 ∷ slot_words v w) (slot_line v)
    (named_read (codes "slot") 32 (slot_words_read v)) (λ w. refl) (λ r. refl) (slot_tested v) (slot_written v)
    (named_form (codes "slot") 32 (is_slot v) (slot_words v) (slot_words_read v) refl (slot_words_form v))

pub slot_line_lacks : (v : Version) → Lacks 10 (is_record v) (slot_line v)
slot_line_lacks v = λ r is. subst (λ line. has_byte 10 line ≡ false) (slot_written v r)
    (slot_words_lacks v (slot_parts r) (slot_tested v r ∙ is))

pub slot_front : (v : Version) → Front (is_record v) (λ r. slot_line v r ++ 10 ∷ []) (line_read (slot_line_read v))
slot_front v = line_front (is_record v) (slot_line v) (slot_line_read v) (slot_line_form v) (slot_line_lacks v)

-- the first line
pub version_front : Front always (λ v. version_line v ++ 10 ∷ []) version_read
version_front = line_front always version_line version_of_line version_form version_lacks

-- no line contains a newline
pub more_lines_are : (line : List ℕ) (lines : List (List ℕ)) → has_byte 10 line ≡ false → list_all is_line lines ≡ true
    → list_all is_line (line ∷ lines) ≡ true
more_lines_are line lines lacks are = and_from (is_line line) (list_all is_line lines) (ap not lacks) are

pub head_lines_are : (h : CoreFields) → are_fields h ≡ true → list_all is_line (head_lines h) ≡ true
head_lines_are h is =
    let p = head_parts h in
    let parts = and_parts (is_generation h.generation && is_time h.time)
    ((is_stage h.stage h.grace && is_goal h.goal) && is_wish p.1.1.1)
    (six_tests (is_generation h.generation) (is_time h.time) (is_stage h.stage h.grace) (is_goal h.goal) (not h.reexec)
    (passes is_goal h.level_wish) ∙ is) in
    let times = and_parts (is_generation h.generation) (is_time h.time) parts.0 in
    let others = and_parts (is_stage h.stage h.grace && is_goal h.goal) (is_wish p.1.1.1) parts.1 in
    let places = and_parts (is_stage h.stage h.grace) (is_goal h.goal) others.0 in
    let wish = wish_line h.reread h.reexec h.level_wish h.pending ∷ [] in
    let flags = flags_line h.booted h.announced ∷ wish in
    let goal = goal_line h.goal ∷ flags in
    let stage = stage_line h.stage h.grace ∷ goal in
    let clock = clock_line h.time ∷ stage in
    more_lines_are (generation_line h.generation) clock (generation_lacks h.generation times.0)
    (more_lines_are (clock_line h.time) stage (time_lacks 10 (lit< tt) h.time times.1)
    (more_lines_are (stage_line h.stage h.grace) goal (stage_pair_lacks (h.stage, h.grace) places.0)
    (more_lines_are (goal_line h.goal) flags (goal_lacks 10 32 (lit< tt) refl h.goal places.1)
    (more_lines_are (flags_line h.booted h.announced) wish (two_lacks 10 newline (h.booted, h.announced) refl)
    (more_lines_are (wish_line h.reread h.reexec h.level_wish h.pending) [] (wishes_lacks p.1.1.1 others.1) refl)))))

-- What the checks of a line imply for the entry that it gives.
use Rattle.inittab_text.proofs.Words.{◌≡◌, ℕ, ◌+◌, ◌<◌, ◌≤◌, Bool, true, false, cond, not, ◌==◌, nat_lt, nat_le, List}
use Rattle.inittab_text.proofs.Words.{[], ◌∷◌, ◌++◌, length, drop, Option, Some, None, is_some, Result, Ok, Err, refl}
use Rattle.inittab_text.proofs.Words.{sym, ap, ◌∙◌, arith, subst, length-append, get_or, IsUtf8, is_utf8, or_parts}
use Rattle.inittab_text.proofs.Words.{and_parts, and_from, not-true, not-false, not_from_false, ltb-false, leb-false}
use Rattle.inittab_text.proofs.Words.{le-leb, drop_at, get_or_at, length_push, option_and_then_some}
use Rattle.inittab_text.proofs.Words.{is_utf8-from_IsUtf8, IsUtf8-from_is_utf8, IsUtf8-nil, IsUtf8-drop}
use Rattle.inittab_text.proofs.Words.{IsCharBoundary-after_ascii, ENTRY_LIMIT, MARK_LIMIT, Entry, Act, Mark, is_id}
use Rattle.inittab_text.proofs.Words.{LineKind, has_byte, skip_blanks, act_read, ignores_levels, has_process}
use Rattle.inittab_text.proofs.Words.{needs_process, FieldBytes, fields_of, is_ignored, levels_meant, levels_kept}
use Rattle.inittab_text.proofs.Words.{kept_of, is_too_long, is_missing, is_text, checked_with, checked, cut-parts}
use Rattle.inittab_text.proofs.Words.{has_byte-parts, has_byte-skip_blanks, entry_of, has_no_repeat, is_levels}
use Rattle.inittab_text.proofs.Words.{is_process}
use Rattle.std.specs.Option.{option_map}
use Rattle.std.proofs.lemmas.List.{append_assoc}
use Rattle.inittab_text.specs.declared.faults.LineKind.TheVariants as fault
use Rattle.inittab_text.specs.Checks.{checked_as, verdict_of}
use Rattle.inittab_text.specs.Written.{is_written}
use Rattle.inittab_text.proofs.MarkLemmas.{length-marks_of, has_no_repeat-without_repeats}

-- the line with these fields
abbrev pub spelled : FieldBytes → List ℕ
spelled f = f.id ++ 58 ∷ (f.levels ++ 58 ∷ (f.action ++ 58 ∷ f.process))

pub option_map_some : {X Y P : Type 0} (f : X → Y) (o : Option X) (y : Y) → option_map f o ≡ Some y
    → ((x : X) → o ≡ Some x → f x ≡ y → P) → P
option_map_some f None y is next = absurd (cc)
option_map_some f (Some x) y is next = next x refl (cc)

-- a line is its fields with the colons between them
pub fields_of-spelled : (line : List ℕ) (f : FieldBytes) → fields_of line ≡ Some f → line ≡ spelled f
fields_of-spelled line f is = grind (arith, option_and_then_some, option_map_some, cut-parts)

-- the checks that a line with an entry has passed
pub record Passed (before : List Entry) (line : List ℕ) (f : FieldBytes) (a : Act) (e : Entry) : Type 0 where
  pub id : is_id f.id ≡ true
  pub levels : length f.levels ≤ MARK_LIMIT
  pub action : act_read f.action ≡ Some a
  pub long : is_too_long a f.process ≡ false
  pub missing : is_missing a f.process ≡ false
  pub text : is_text line ≡ true
  pub new : entry_of f.id before ≡ None
  pub room : length before < ENTRY_LIMIT
  pub is : e ≡ kept_of a f

guard : {X E : Type 0} (b : Bool) (fault : E) (r : Result X E) (x : X) → cond b (Err fault) r ≡ Ok x
    → (b ≡ false) × (r ≡ Ok x)
guard true fault r x is = absurd (cc)
guard false fault r x is = (refl, is)

guard_ignored : (b : Bool) (r : Result (Option Entry) LineKind) (e : Entry) → cond b (Ok None) r ≡ Ok (Some e)
    → r ≡ Ok (Some e)
guard_ignored true r e is = absurd (cc)
guard_ignored false r e is = is

none_there : {X : Type 0} (o : Option X) → is_some o ≡ false → o ≡ None
none_there o is = grind arith

passed_as : (before : List Entry) (line : List ℕ) (f : FieldBytes) (a : Act) (e : Entry) → is_id f.id ≡ true
    → length f.levels ≤ MARK_LIMIT → act_read f.action ≡ Some a → checked_as a before line f ≡ Ok (Some e)
    → Passed before line f a e
unfolding checked_as
passed_as before line f a e id levels action is =
    let long = guard (is_too_long a f.process) fault.Length _ (Some e) is in
    let missing = guard (is_missing a f.process) fault.Empty _ (Some e) long.1 in
    let text = guard (not (is_text line)) fault.Text _ (Some e) missing.1 in
    let new = guard (is_some (entry_of f.id before)) fault.Twice _ (Some e) text.1 in
    let room = guard (nat_le ENTRY_LIMIT (length before)) fault.Many (Ok (Some (kept_of a f))) (Some e) new.1 in
    record {
      id = id;
      levels = levels;
      action = action;
      long = long.0;
      missing = missing.0;
      text = not-false (is_text line) text.0;
      new = none_there (entry_of f.id before) new.0;
      room = leb-false ENTRY_LIMIT (length before) room.0;
      is = cc (room.1);
    }

passed_with : (before : List Entry) (line : List ℕ) (f : FieldBytes) (o : Option Act) (e : Entry) → is_id f.id ≡ true
    → length f.levels ≤ MARK_LIMIT → act_read f.action ≡ o → checked_with o before line f ≡ Ok (Some e)
    → (a : Act) × Passed before line f a e
passed_with before line f None e id levels action is = absurd (cc)
passed_with before line f (Some a) e id levels action is = (a, passed_as before line f a e id levels action is)

passed_fields : (before : List Entry) (line : List ℕ) (o : Option FieldBytes) (e : Entry) → fields_of line ≡ o → checked
    before line o ≡ Ok (Some e) → (f : FieldBytes) × (a : Act) × (fields_of line ≡ Some f) × Passed before line f a e
passed_fields before line None e at is = absurd (cc)
passed_fields before line (Some f) e at is =
    let id = guard (not (is_id f.id)) fault.Id _ (Some e) is in
    let levels = guard (nat_lt MARK_LIMIT (length f.levels)) fault.Levels _ (Some e) id.1 in
    let rest = passed_with before line f (act_read f.action) e (not-false (is_id f.id) id.0)
    (ltb-false MARK_LIMIT (length f.levels) levels.0) refl levels.1 in
    (f, rest.0, at, rest.1)

pub passed : (before : List Entry) (line : List ℕ) (e : Entry) → verdict_of before line ≡ Ok (Some e)
    → (f : FieldBytes) × (a : Act) × (fields_of (skip_blanks line) ≡ Some f) × Passed before (skip_blanks line) f a e
unfolding verdict_of
passed before line e is =
    let text = skip_blanks line in
    passed_fields before text (fields_of text) e refl
    (guard_ignored (is_ignored text) (checked before text (fields_of text)) e is)

-- the rest of a UTF-8 text after an ASCII byte is UTF-8
is_text-rest : (front rest : List ℕ) → is_text (front ++ 58 ∷ rest) ≡ true → is_text rest ≡ true
is_text-rest front rest is =
    let whole = front ++ 58 ∷ rest in
    let parts = and_parts (is_utf8 whole) (not (has_byte 0 whole)) is in
    let utf8 : IsUtf8 whole = IsUtf8-from_is_utf8 whole parts.0 in
    let at : get_or whole (length front) 0 ≡ 58 = get_or_at front 58 rest 0 (length front) refl in
    let within : length front < length whole = omega (arith, length-append front (58 ∷ rest)) in
    let cut_there : drop (length front + 1) whole ≡ rest = ap (drop (length front + 1)) (sym
    (append_assoc front (58 ∷ []) rest)) ∙ drop_at (front ++ 58 ∷ []) rest (length front + 1) (length_push front 58) in
    let valid : IsUtf8 (drop (length front + 1) whole) = IsUtf8-drop whole (length front + 1) utf8
    (IsCharBoundary-after_ascii whole (length front) utf8 within (omega arith)) in
    let lacks = has_byte-parts 0 front (58 ∷ rest) (not-true (has_byte 0 whole) parts.1) in
    and_from (is_utf8 rest) (not (has_byte 0 rest)) (is_utf8-from_IsUtf8 rest (subst IsUtf8 cut_there valid))
    (not_from_false (has_byte 0 rest) (or_parts (58 == 0) (has_byte 0 rest) lacks.1).1)

is_text-process : (f : FieldBytes) → is_text (spelled f) ≡ true → is_text f.process ≡ true
is_text-process f is = grind (arith, is_text-rest)

lacks-rest : (front rest : List ℕ) → has_byte 10 (front ++ 58 ∷ rest) ≡ false → has_byte 10 rest ≡ false
lacks-rest front rest lacks = (or_parts (58 == 10) (has_byte 10 rest) (has_byte-parts 10 front (58 ∷ rest) lacks).1).1

lacks-process : (f : FieldBytes) → has_byte 10 (spelled f) ≡ false → has_byte 10 f.process ≡ false
lacks-process f is = lacks-rest f.action f.process (lacks-rest f.levels (f.action ++ 58 ∷ f.process)
    (lacks-rest f.id (f.levels ++ 58 ∷ (f.action ++ 58 ∷ f.process)) is))

-- the default for an empty runlevels field has at most eleven characters
length-levels_meant : (a : Act) (field : List ℕ) → length field ≤ MARK_LIMIT
    → length (levels_meant a field) ≤ MARK_LIMIT
length-levels_meant a field few = grind arith

is_levels_by : (a : Act) (marks : List Mark) (b : Bool) → ignores_levels a ≡ b → length marks ≤ MARK_LIMIT
    → has_no_repeat marks ≡ true → is_levels a (cond b [] marks) ≡ true
is_levels_by a marks true ignored few once = rw ignored refl
is_levels_by a marks false ignored few once = rw (le-leb (length marks) MARK_LIMIT few, once, ignored) refl

pub is_levels-kept : (a : Act) (field : List ℕ) → length field ≤ MARK_LIMIT → is_levels a (levels_kept a field) ≡ true
is_levels-kept a field few =
    grind (arith, is_levels_by, length-marks_of, length-levels_meant, has_no_repeat-without_repeats)

needs_none : (a : Act) → has_process a ≡ false → needs_process a ≡ false
needs_none a none = grind arith

is_process_by : (a : Act) (process : List ℕ) (b : Bool) → has_process a ≡ b → is_too_long a process ≡ false → is_missing
    a process ≡ false → is_text process ≡ true → has_byte 10 process ≡ false → is_process a (cond b process []) ≡ true
is_process_by a process true has long missing text lacks = rw (long, missing, text, lacks, has) refl
is_process_by a process false has long missing text lacks = grind (arith, is_utf8-from_IsUtf8, IsUtf8-nil, needs_none)

-- an entry that was read meets the conditions of a written one
pub is_written-kept : (before : List Entry) (line : List ℕ) (f : FieldBytes) (a : Act) (e : Entry)
    → Passed before line f a e → line ≡ spelled f → has_byte 10 line ≡ false → is_written e ≡ true
unfolding is_written
is_written-kept before line f a e h at lacks =
    let text : is_text (spelled f) ≡ true = subst (λ l. is_text l ≡ true) at h.text in
    let none : has_byte 10 (spelled f) ≡ false = subst (λ l. has_byte 10 l ≡ false) at lacks in
    let process =
    is_process_by a f.process (has_process a) refl h.long h.missing (is_text-process f text) (lacks-process f none) in
    rw h.is (and_from _ _ (and_from _ _ h.id (is_levels-kept a f.levels h.levels)) process)

-- an entry that was read can be added to the table: its id is new, it is a written one, and there is room for it
pub kept_entry : (before : List Entry) (line : List ℕ) (e : Entry) → verdict_of before line ≡ Ok (Some e)
    → has_byte 10 line ≡ false → (entry_of e.id before ≡ None) × (is_written e ≡ true) × (length before < ENTRY_LIMIT)
kept_entry before line e is lacks =
    let all = passed before line e is in
    let h = all.3 in
    let id : e.id ≡ all.0.id = ap (λ (x : Entry). x.id) h.is in (
      rw id h.new,
      is_written-kept before (skip_blanks line) all.0 all.1 e h (fields_of-spelled (skip_blanks line) all.0 all.2)
          (has_byte-skip_blanks 10 line lacks),
      h.room,
    )

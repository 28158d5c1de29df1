-- The lines of a text before its last one: what is read from them, and that nothing else can be. Also, how a text is
-- split at its last line.
use Rattle.core_text.proofs.CommonWords.{◌≡◌, ◌≢◌, ℕ, zero, suc, ◌-◌, Bool, true, false, cond, not, ◌&&◌, ◌==◌, List}
use Rattle.core_text.proofs.CommonWords.{[], ◌∷◌, ◌++◌, length, take, map, append-nil, codes, Option, Some, None}
use Rattle.core_text.proofs.CommonWords.{Result, Ok, Err, refl, sym, ap, ◌∙◌, subst, arith, list_all, starts_with}
use Rattle.core_text.proofs.CommonWords.{and_parts, and_from, lt-ltb, not-true, append_assoc, list_all-append}
use Rattle.core_text.proofs.CommonWords.{option_and_then_some, same_Some, some_pair_parts, after_lines, cut, has_byte}
use Rattle.core_text.proofs.CommonWords.{newlines, cut-append, cut-parts, newlines-append, newlines-line, take-front}
use Rattle.core_text.proofs.CommonWords.{Entry, table_parts, option_map_some, one_line, parts, fields_written, is_empty}
use Rattle.core_text.proofs.CommonWords.{is_table, is_written, CoreFields, StateFault, PlainSlot, SavedState, Version}
use Rattle.core_text.proofs.CommonWords.{holds_table, body_lines, head_lines, slot_line, table_line, text_of_lines}
use Rattle.core_text.proofs.CommonWords.{version_line, are_fields, is_record, is_state, OnLine, end_split, fields_read}
use Rattle.core_text.proofs.CommonWords.{last_line, table_read, version_read, AreRecords, IsBody, IsBodyIn, NoBody}
use Rattle.core_text.proofs.CommonWords.{NoRecords, RefusedBody, is_line}
use Rattle.std.specs.Option.{option_map}
use Rattle.std.specs.Result.{IfErr, IsErrAnd, MatchResult}
use Rattle.core_text.specs.declared.state_fault.StateFault.TheVariants as fault
use Rattle.core_text.proofs.LineForms.{head_lines_are, fields_front, more_lines_are, slot_line_lacks, version_front}
use Rattle.core_text.proofs.Whole.{records_text, table_back, table_own, table_text}
use Rattle.core_text.proofs.WordForms.{time_lacks, version_lacks}
use Rattle.core_text.proofs.Written.{text_of_lines-append}

-- a fault that is passed on, and what it implies
pub err_kept : {T E : Type 0} (r : Result T E) (e : E) (Q : E → Type 0) → IsErrAnd r (λ x. x ≡ e) → Q e → IfErr r Q
err_kept (Ok t) e Q is q = tt
err_kept (Err x) e Q is q = subst Q (sym is) q

pub match_kept : {T E : Type 0} (r : Result T E) (e : E) (P : T → Type 0) (Q : E → Type 0) → IsErrAnd r (λ x. x ≡ e)
    → Q e → MatchResult r P Q
match_kept (Ok t) e P Q is q = absurd is
match_kept (Err x) e P Q is q = subst Q (sym is) q

pub on_line : {P Q : Type 0} → (P → Q) → (why : StateFault) → OnLine P why → OnLine Q why
on_line f (fault.Line n) p = f p
on_line f fault.Memory p = tt
on_line f fault.Cut p = p
on_line f fault.Version p = p
on_line f fault.Generation p = p
on_line f fault.Unfit p = p
on_line f fault.Worn p = p

pub on_body : {P : Type 0} (text : List ℕ) → (P → (version_read text ≢ None) × NoBody text) → (why : StateFault)
    → OnLine P why → RefusedBody text why
on_body text f (fault.Line n) p = f p
on_body text f fault.Memory p = tt
on_body text f fault.Cut p = p
on_body text f fault.Version p = absurd p
on_body text f fault.Generation p = p
on_body text f fault.Unfit p = p
on_body text f fault.Worn p = p

-- The lines before the last one.

unfoldable pub body_text : Version → SavedState → List ℕ
body_text v state = text_of_lines (body_lines v state)

unfoldable pub fields_text : CoreFields → List ℕ
fields_text fields = text_of_lines (head_lines fields)

-- the version's line with its newline, followed by more text
abbrev begun : Version → List ℕ → List ℕ
begun v rest = (version_line v ++ 10 ∷ []) ++ rest

body_parts : (v : Version) (state : SavedState)
    → body_text v state ≡ begun v (fields_text state.fields ++ (table_text state.table ++ records_text v state.records))
unfolding body_text fields_text table_text records_text
body_parts v state =
    ap (begun v) (text_of_lines-append (head_lines state.fields)
    (table_line (length state.table) ∷ (map fields_written state.table ++ map (slot_line v) state.records))
    ∙ ap (λ t. text_of_lines (head_lines state.fields) ++ t) (text_of_lines-append
    (table_line (length state.table) ∷ map fields_written state.table) (map (slot_line v) state.records)))

begun_as : (v : Version) (rest : List ℕ) → begun v rest ≡ version_line v ++ 10 ∷ rest
begun_as v rest = append_assoc (version_line v) (10 ∷ []) rest

pub version_own : (v : Version) (text rest : List ℕ) → version_read text ≡ Some (v, rest)
    → version_line v ++ 10 ∷ rest ≡ text
version_own v text rest is = sym (begun_as v rest) ∙ (version_front.own text v rest is).0

pub version_back : (v : Version) (rest : List ℕ) → version_read (version_line v ++ 10 ∷ rest) ≡ Some (v, rest)
version_back v rest = ap version_read (sym (begun_as v rest)) ∙ version_front.back v rest refl

-- the conditions on the fields, the table and the records of a state
pub record Kept (v : Version) (state : SavedState) : Type 0 where
  pub fields : are_fields state.fields ≡ true
  pub table : is_table state.table ≡ true
  pub holds : holds_table v state.table ≡ true
  pub records : list_all (is_record v) state.records ≡ true

pub state_parts : (v : Version) (state : SavedState) → is_state v state ≡ true → Kept v state
state_parts v state is = grind arith

-- what is read from the text of a state, and from more text after it
pub record Steps (v : Version) (state : SavedState) (text more : List ℕ) : Type 0 where
  pub begins : version_read text
      ≡ Some (v, fields_text state.fields ++ (table_text state.table ++ (records_text v state.records ++ more)))
  pub fields : fields_read (fields_text state.fields ++ (table_text state.table ++ (records_text v state.records
      ++ more))) ≡ Some (state.fields, table_text state.table ++ (records_text v state.records ++ more))
  pub table : table_read v (table_text state.table ++ (records_text v state.records ++ more))
      ≡ Some (state.table, records_text v state.records ++ more)

pub steps : (v : Version) (state : SavedState) (text more : List ℕ) → is_state v state ≡ true
    → body_text v state ++ more ≡ text → Steps v state text more
unfolding fields_text
steps v state text more is same =
    let plain = state_parts v state is in
    let after_prefix = fields_text state.fields ++ (table_text state.table ++ (records_text v state.records ++ more)) in
    let whole : text ≡ begun v after_prefix =
    sym same ∙ ap (λ t. t ++ more) (body_parts v state) ∙ append_assoc (version_line v ++ 10 ∷ [])
    (fields_text state.fields ++ (table_text state.table ++ records_text v state.records)) more
    ∙ ap (begun v)
    (append_assoc (fields_text state.fields) (table_text state.table ++ records_text v state.records) more ∙ ap
    (λ t. fields_text state.fields ++ t) (append_assoc (table_text state.table) (records_text v state.records) more)) in
    record {
      begins = ap version_read whole ∙ version_front.back v after_prefix refl;
      fields =
          fields_front.back state.fields
          (table_text state.table ++ (records_text v state.records ++ more)) plain.fields;
      table = table_back v state.table (records_text v state.records ++ more) plain.table plain.holds;
    }

pub lost : {X : Type 0} (x : X) → ◌≡◌ {A = Option X} None (Some x) → ⊥
lost x e = cc

pub steps_of : (v : Version) (state : SavedState) (text : List ℕ) → IsBodyIn v text state → Steps v state text []
unfolding body_text
steps_of v state text is = steps v state text [] is.0 (append-nil (text_of_lines (body_lines v state)) ∙ is.1)

-- the lines before the last one are those of the version named in the first line
pub of_version : (v : Version) (state : SavedState) (text first : List ℕ) → version_read text ≡ Some (v, first)
    → IsBody text state → IsBodyIn v text state
of_version v state text first at is = subst (λ w. IsBodyIn w text state) same is.1
  where
    same : is.0 ≡ v
    same = (some_pair_parts _ _ _ _ (sym (steps_of is.0 state text is.1).begins ∙ at)).0

-- and so is the text after that line
pub behind_version : (v : Version) (state : SavedState) (text first : List ℕ) → version_read text ≡ Some (v, first)
    → Steps v state text []
    → first ≡ fields_text state.fields ++ (table_text state.table ++ (records_text v state.records ++ []))
behind_version v state text first at read = (some_pair_parts _ _ _ _ (sym at ∙ read.begins)).1

known_version : (v : Version) (text first : List ℕ) → version_read text ≡ Some (v, first) → version_read text ≢ None
known_version v text first at none = lost (v, first) (sym none ∙ at)

pub no_fields : (v : Version) (text first : List ℕ) → version_read text ≡ Some (v, first) → fields_read first ≡ None
    → (version_read text ≢ None) × NoBody text
no_fields v text first at none = (
  known_version v text first at,
  λ state is.
      let read = steps_of v state text (of_version v state text first at is) in
      lost _ (sym none ∙ ap fields_read (behind_version v state text first at read) ∙ read.fields),
)

-- after the fields
pub to_fields : (v : Version) (state : SavedState) (text first second : List ℕ) (fields : CoreFields)
    → version_read text ≡ Some (v, first) → fields_read first ≡ Some (fields, second) → Steps v state text []
    → (fields ≡ state.fields) × (second ≡ table_text state.table ++ (records_text v state.records ++ []))
to_fields v state text first second fields at found read = grind arith

pub no_table : (v : Version) (text first second : List ℕ) (fields : CoreFields) → version_read text ≡ Some (v, first)
    → fields_read first ≡ Some (fields, second) → table_read v second ≡ None → (version_read text ≢ None) × NoBody text
no_table v text first second fields at found none = (
  known_version v text first at,
  λ state is.
      let read = steps_of v state text (of_version v state text first at is) in
      let here = to_fields v state text first second fields at found read in
      lost _ (sym none ∙ ap (table_read v) here.1 ∙ read.table),
)

pub no_body : (v : Version) (text first second third : List ℕ) (fields : CoreFields) (table : List Entry)
    → version_read text ≡ Some (v, first) → fields_read first ≡ Some (fields, second)
    → table_read v second ≡ Some (table, third) → NoRecords v third → (version_read text ≢ None) × NoBody text
unfolding records_text
no_body v text first second third fields table at found then never = (
  known_version v text first at,
  λ state is.
      let own = of_version v state text first at is in
      let read = steps_of v state text own in
      let here = to_fields v state text first second fields at found read in
      let there = some_pair_parts table state.table third (records_text v state.records ++ [])
      (sym then ∙ ap (table_read v) here.1 ∙ read.table) in
      never state.records (state_parts v state own.0).records
      (sym (append-nil (records_text v state.records)) ∙ sym there.1),
)

pub is_body : (v : Version) (text first second third : List ℕ) (fields : CoreFields) (table : List Entry)
    (records : List PlainSlot) → version_read text ≡ Some (v, first) → fields_read first ≡ Some (fields, second)
    → table_read v second ≡ Some (table, third) → AreRecords v third records
    → IsBody text (record { fields = fields; table = table; records = records })
unfolding body_text fields_text records_text
is_body v text first second third fields table records at found then are =
    let state : SavedState = record { fields = fields; table = table; records = records } in
    let one = fields_front.own first fields second found in
    let two = table_own v second third table then in (
      v,
      (
        and_from (are_fields fields && (is_table table && holds_table v table)) (list_all (is_record v) records)
            (and_from (are_fields fields) (is_table table && holds_table v table) one.1
            (and_from (is_table table) (holds_table v table) two.1 two.2)) are.0,
        body_parts v state ∙ ap (λ t. begun v (fields_text fields ++ (table_text table ++ t))) are.1 ∙ ap (λ t. begun v
            (fields_text fields ++ t)) two.0 ∙ ap (begun v) one.0 ∙ begun_as v first ∙ version_own v text first at,
      ),
    )

-- The last line.

-- lines without newlines in them
pub newlines_are : (lines : List (List ℕ)) → list_all is_line lines ≡ true
    → newlines (text_of_lines lines) ≡ length lines
newlines_are [] are = grind (arith, newlines-append, newlines-line, not-true)
newlines_are (line ∷ lines) are = grind (arith, newlines_are lines, newlines-append, newlines-line, not-true)

after_these : (lines : List (List ℕ)) (rest : List ℕ) → list_all is_line lines ≡ true
    → after_lines (length lines) (text_of_lines lines ++ rest) ≡ Some rest
after_these [] rest are = grind (arith, append_assoc, cut-append, not-true)
after_these (line ∷ lines) rest are = grind (arith, after_these lines rest, append_assoc, cut-append, not-true)

-- the lines that precede the rest
record Lined (text rest : List ℕ) : Type 0 where
  pub lines : List (List ℕ)
  pub whole : text_of_lines lines ++ rest ≡ text
  pub are : list_all is_line lines ≡ true

lined : (n : ℕ) (text rest : List ℕ) → after_lines n text ≡ Some rest → Lined text rest
lined zero text rest is = record { lines = []; whole = sym (same_Some text rest is); are = refl }
lined (suc n) text rest is =
    option_and_then_some (λ (parts : List ℕ × List ℕ). after_lines n parts.1) (cut 10 text) rest is (λ parts at more.
    let first = cut-parts 10 text parts.0 parts.1 at in
    let after_prefix = lined n parts.1 rest more in
    record {
      lines = parts.0 ∷ after_prefix.lines;
      whole = append_assoc (parts.0 ++ 10 ∷ []) (text_of_lines after_prefix.lines) rest
          ∙ ap (λ t. (parts.0 ++ 10 ∷ []) ++ t) after_prefix.whole ∙ append_assoc parts.0 (10 ∷ []) parts.1
          ∙ sym first.0;
      are = more_lines_are parts.0 after_prefix.lines first.1 after_prefix.are;
    })

-- how a whole text is split
pub split_back : (lines : List (List ℕ)) (last text : List ℕ) → list_all is_line lines ≡ true → is_line last ≡ true
    → starts_with ◌==◌ last (codes "end ") ≡ true → text_of_lines lines ++ (last ++ 10 ∷ []) ≡ text
    → end_split text ≡ Some (text_of_lines lines, last)
split_back lines last text are is begins whole =
    let lacks = not-true (has_byte 10 last) is in
    let rest = last ++ 10 ∷ [] in
    let some : newlines (text_of_lines lines ++ rest) - 1 ≡ length lines =
    omega (arith, newlines-append (text_of_lines lines) rest, newlines_are lines are, newlines-line last lacks) in
    rw (
      ← whole,
      some,
      after_these lines rest are,
      cut-append 10 last [] lacks,
      begins,
      take-front (text_of_lines lines) rest,
    ) refl

pub record Split (text body last : List ℕ) : Type 0 where
  pub lines : List (List ℕ)
  pub are : list_all is_line lines ≡ true
  pub is : is_line last ≡ true
  pub begins : starts_with ◌==◌ last (codes "end ") ≡ true
  pub body_is : text_of_lines lines ≡ body
  pub whole : text_of_lines lines ++ (last ++ 10 ∷ []) ≡ text

last_own : (rest last : List ℕ) → last_line rest ≡ Some last
    → (last ++ 10 ∷ [] ≡ rest) × (is_line last ≡ true) × (starts_with ◌==◌ last (codes "end ") ≡ true)
last_own rest last found =
    option_and_then_some (λ (parts : List ℕ × List ℕ). cond
    (is_empty parts.1 && starts_with ◌==◌ parts.0 (codes "end ")) (Some parts.0) None) (cut 10 rest) last found
    (λ parts at chosen. by parts at (is_empty parts.1 && starts_with ◌==◌ parts.0 (codes "end ")) refl chosen)
  where
    empty : (xs : List ℕ) → is_empty xs ≡ true → xs ≡ []
    empty xs e = grind arith

    by : (parts : List ℕ × List ℕ) → cut 10 rest ≡ Some parts → (b : Bool)
        → is_empty parts.1 && starts_with ◌==◌ parts.0 (codes "end ") ≡ b → cond b (Some parts.0) None ≡ Some last
        → (last ++ 10 ∷ [] ≡ rest) × (is_line last ≡ true) × (starts_with ◌==◌ last (codes "end ") ≡ true)
    by parts at true holds chosen =
        let this : parts.0 ≡ last = same_Some parts.0 last chosen in
        let tests = and_parts (is_empty parts.1) (starts_with ◌==◌ parts.0 (codes "end ")) holds in
        let cutted = cut-parts 10 rest parts.0 parts.1 at in
        subst (λ l. (l ++ 10 ∷ [] ≡ rest) × (is_line l ≡ true) × (starts_with ◌==◌ l (codes "end ") ≡ true)) this
        (ap (λ m. parts.0 ++ 10 ∷ m) (sym (empty parts.1 tests.0)) ∙ sym cutted.0, ap not cutted.1, tests.1)
    by parts at false holds chosen = absurd (cc)

pub split_own : (text body last : List ℕ) → end_split text ≡ Some (body, last) → Split text body last
split_own text body last found =
    option_and_then_some (λ rest. option_map {U = List ℕ × List ℕ} (λ l. (take (length text - length rest) text, l))
    (last_line rest)) (after_lines (newlines text - 1) text) (body, last) found (λ rest at chosen.
    option_map_some {Y = List ℕ × List ℕ} (λ l. (take (length text - length rest) text, l)) (last_line rest)
    (body, last) chosen (λ l was same.
    let pair = some_pair_parts (take (length text - length rest) text) body l last (ap Some same) in
    let front = lined (newlines text - 1) text rest at in
    let own = last_own rest last (was ∙ ap Some pair.1) in
    let taken : take (length text - length rest) text ≡ text_of_lines front.lines =
    ap (λ t. take (length t - length rest) t) (sym front.whole) ∙ take-front (text_of_lines front.lines) rest in
    record {
      lines = front.lines;
      are = front.are;
      is = own.1;
      begins = own.2;
      body_is = sym taken ∙ pair.0;
      whole = ap (λ r. text_of_lines front.lines ++ r) own.0 ∙ front.whole;
    }))

-- The lines of a state.

entries_are : (table : List Entry) → list_all is_written table ≡ true
    → list_all is_line (map fields_written table) ≡ true
entries_are [] are = refl
entries_are (e ∷ table) are =
    let both = and_parts (is_written e) (list_all is_written table) are in
    more_lines_are (fields_written e) (map fields_written table) (one_line e (parts e both.0))
    (entries_are table both.1)

slots_are : (v : Version) (records : List PlainSlot) → list_all (is_record v) records ≡ true
    → list_all is_line (map (slot_line v) records) ≡ true
slots_are v [] are = refl
slots_are v (r ∷ records) are =
    let both = and_parts (is_record v r) (list_all (is_record v) records) are in
    more_lines_are (slot_line v r) (map (slot_line v) records) (slot_line_lacks v r both.0) (slots_are v records both.1)

pub body_lines_are : (v : Version) (state : SavedState) → is_state v state ≡ true
    → list_all is_line (body_lines v state) ≡ true
body_lines_are v state is =
    grind (
      arith,
      state_parts,
      table_parts,
      list_all-append,
      entries_are,
      slots_are,
      more_lines_are,
      time_lacks,
      lt-ltb,
      version_lacks,
      head_lines_are,
    )

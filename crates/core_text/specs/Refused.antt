-- Which texts represent states, and the reasons why a text is rejected.
use Rattle.std.specs.Prelude.{◌≡◌, ◌≢◌, ◌==◌, ℕ, Bool, true, not, List, [], ◌∷◌, ◌++◌, map, codes, None}
use Rattle.std.specs.List.{list_all, starts_with}
use Rattle.core_text.specs.CommonWords.{has_byte, PlainSlot, SavedState}
use Rattle.core_text.specs.declared.state_fault.StateFault.{StateFault}
use Rattle.core_text.specs.declared.state_fault.StateFault.TheVariants.{Cut, Version as OtherVersion, Line, Generation}
use Rattle.core_text.specs.declared.state_fault.StateFault.TheVariants.{Memory}
use Rattle.core_text.specs.declared.versions.Version.{Version}
use Rattle.core_text.specs.Lines.{body_lines, slot_line, text_in, text_of_lines, version_line}
use Rattle.core_text.specs.Range.{is_record, is_state}
use Rattle.core_text.specs.Reading.{OnLine, version_read}

-- a line contains no newline
abbrev pub is_line : List ℕ → Bool
is_line line = not (has_byte 10 line)

-- the text ends with a newline, and its last line begins with `end `
pub record Whole (text : List ℕ) : Type 0 where
  pub lines : List (List ℕ)
  pub last : List ℕ
  pub are_lines : list_all is_line lines ≡ true
  pub is_last : is_line last ≡ true
  pub begins : starts_with ◌==◌ last (codes "end ") ≡ true
  pub whole : text_of_lines lines ++ (last ++ 10 ∷ []) ≡ text

-- the text represents the state in this version
abbrev pub IsTextIn : Version → List ℕ → SavedState → Type 0
IsTextIn version text state = (is_state version state ≡ true) × (text_in version state ≡ text)

-- the text represents the state in some version
abbrev pub IsTextOf : List ℕ → SavedState → Type 0
IsTextOf text state = (version : Version) × IsTextIn version text state

-- the text represents no state
abbrev pub SaysNone : List ℕ → Type 0
SaysNone text = (state : SavedState) → IsTextOf text state → ⊥

-- the text consists of the first line for this version and the given rest
abbrev pub BeginsAs : Version → List ℕ → List ℕ → Type 0
BeginsAs version text rest = version_line version ++ 10 ∷ rest ≡ text

-- the text begins with the first line for this version
abbrev pub Begins : List ℕ → Version → Type 0
Begins text version = (rest : List ℕ) × BeginsAs version text rest

-- the text begins with the first line for a known version
abbrev pub BeginsAsKnown : List ℕ → Type 0
BeginsAsKnown text = (version : Version) × Begins text version

-- the text is not whole
abbrev pub IsCut : List ℕ → Type 0
IsCut text = Whole text → ⊥

-- the text is whole, and its first line names no known version
abbrev pub IsOtherVersion : List ℕ → Type 0
IsOtherVersion text = Whole text × ((version : Version) (rest : List ℕ) → BeginsAs version text rest → ⊥)

-- the text represents a state of another generation
pub record IsOther (text : List ℕ) (generation : ℕ) : Type 0 where
  pub state : SavedState
  pub says : IsTextOf text state
  pub other : state.fields.generation ≢ generation

-- What each reason for rejecting a text implies. The text is cut short; or it is whole, but its first line names no
-- known version; or it is whole and has a known version, but represents no state (which line the fault names is not
-- specified); or it represents a state of another generation. If memory ran out, nothing is implied about the text.
abbrev pub Refused : List ℕ → ℕ → StateFault → Type 0
Refused text generation Cut = IsCut text
Refused text generation OtherVersion = IsOtherVersion text
Refused text generation (Line number) = Whole text × BeginsAsKnown text × SaysNone text
Refused text generation Generation = IsOther text generation
Refused text generation Memory = Unit {0}
Refused text generation _ = ⊥

-- the text consists of the lines for these records in this version
abbrev pub AreRecords : Version → List ℕ → List PlainSlot → Type 0
AreRecords version text records =
    (list_all (is_record version) records ≡ true) × (text_of_lines (map (slot_line version) records) ≡ text)

-- the text does not consist of the lines for any list of records in this version
abbrev pub NoRecords : Version → List ℕ → Type 0
NoRecords version text =
    (records : List PlainSlot) → list_all (is_record version) records ≡ true
    → text_of_lines (map (slot_line version) records) ≢ text

-- the text consists of all lines of the state in this version except the last one
abbrev pub IsBodyIn : Version → List ℕ → SavedState → Type 0
IsBodyIn version text state = (is_state version state ≡ true) × (text_of_lines (body_lines version state) ≡ text)

-- the text consists of all lines of the state in some version except the last one
abbrev pub IsBody : List ℕ → SavedState → Type 0
IsBody text state = (version : Version) × IsBodyIn version text state

-- the text does not consist of all lines except the last of any state
abbrev pub NoBody : List ℕ → Type 0
NoBody text = (state : SavedState) → IsBody text state → ⊥

-- why the lines before the last one are rejected: the version is unknown, or another line is wrong
abbrev pub RefusedBody : List ℕ → StateFault → Type 0
RefusedBody text OtherVersion = version_read text ≡ None
RefusedBody text why = OnLine ((version_read text ≢ None) × NoBody text) why

-- The output of the `follow` command, and its exit status.
use Rattle.std.specs.Prelude.{◌≡◌, ◌⊎◌, ℕ, ◌-◌, ◌==◌, Bool, true, false, List, [], ◌∷◌, ◌++◌, length, Option, Some}
use Rattle.std.specs.Prelude.{None, IfSome}
use Rattle.initview_command.specs.Words.{ViewEnd, KnownOutput, WritesLines, WritesLinePrefix}
use Rattle.initview_lines.specs.declared.lines.Line.{Line}
use Rattle.initview_lines.specs.Following.{HasFollowedText, AreFollowedLines}
use Rattle.initview_lines.specs.Parts.{HasTold, IsToldOf}
use Rattle.initview_command.specs.declared.following.Reader.{Reader}
use Rattle.initview_command.specs.declared.following.Reader.TheVariants.{Run, Part}
use Rattle.initview_command.specs.Showing.{EndsUnwritten, stop_status}

-- if the input is known, the text is all of it
abbrev pub IsAllOf : Option (List ℕ) → List ℕ → Type 0
IsAllOf input text = IfSome input (λ known. text ≡ known)

-- if the input is known, the text is a prefix of it
abbrev pub BeginsAllOf : Option (List ℕ) → List ℕ → Type 0
BeginsAllOf input text = IfSome input (λ known. (rest : List ℕ) × (text ++ rest ≡ known))

-- the text can be the beginning of a run: it begins with a `use` line, the only line of a trace that begins with u, or
-- is empty
abbrev pub begins_run : List ℕ → Bool
begins_run [] = true
begins_run (byte ∷ text) = byte == 117

-- the laws are checked, unless only the last lines are requested and the text begins in the middle of a run
abbrev pub is_judged : Option ℕ → List ℕ → Bool
is_judged None text = true
is_judged (Some count) text = begins_run text

-- these are the lines for a text, given the reason why the view ended and the line at which an incomplete happening
-- begins; if the laws are not checked, the message about each happening does not depend on the past
abbrev pub AreLinesOf : Bool → List ℕ → Option ViewEnd → Option ℕ → List Line → Type 0
AreLinesOf true text stop line past_lines = AreFollowedLines text stop line past_lines
AreLinesOf false text stop line past_lines = IsToldOf text stop line past_lines

-- The lines that are not written: none by default. If the last `count` lines are requested, these are all but the last
-- `count` lines for some prefix of the input, which is the text that exists when following begins.
abbrev pub IsHidden : Option ℕ → Option (List ℕ) → List Line → Type 0
IsHidden None input hidden = hidden ≡ []
IsHidden (Some count) input hidden =
    (there : List ℕ) × (shown : List Line) × (stop : Option ViewEnd) × (line : Option ℕ) × BeginsAllOf input there
    × AreLinesOf (begins_run there) there stop line (hidden ++ shown)
    × (length hidden ≡ length (hidden ++ shown) - count)

-- what is known when following starts: the number of lines requested, the lines that are not written, and the output so
-- far
pub record Start : Type 0 where
  pub last : Option ℕ
  pub hidden : List Line
  pub heard : KnownOutput

-- all lines for the whole input were written, except the hidden ones
abbrev pub WritesAll : Start → Option (List ℕ) → Option ViewEnd → Option ℕ → KnownOutput → Type 0
WritesAll start input stop line now =
    (text : List ℕ) × (shown : List Line) × IsAllOf input text
    × AreLinesOf (is_judged start.last text) text stop line (start.hidden ++ shown) × WritesLines start.heard now shown

-- a prefix of the lines for a part of the input was written, except the hidden ones
abbrev pub WritesPart : Start → Option (List ℕ) → KnownOutput → Type 0
WritesPart start input now =
    (text : List ℕ) × (shown : List Line) × (stop : Option ViewEnd) × (line : Option ℕ) × BeginsAllOf input text
    × AreLinesOf (is_judged start.last text) text stop line (start.hidden ++ shown)
    × WritesLinePrefix start.heard now shown

-- the start of following, with these lines hidden
abbrev pub start_of : Option ℕ → List Line → KnownOutput → Start
start_of last hidden heard = record { last = last; hidden = hidden; heard = heard }

-- all lines for the input were written, except lines that were not requested
abbrev pub FollowsAll : Option ℕ → Option (List ℕ) → Option ViewEnd → Option ℕ → KnownOutput → KnownOutput → Type 0
FollowsAll last input stop line old new =
    (hidden : List Line) × IsHidden last input hidden × WritesAll (start_of last hidden old) input stop line new

-- some of the lines for a prefix of the input were written, except lines that were not requested
abbrev pub FollowsPart : Option ℕ → Option (List ℕ) → KnownOutput → KnownOutput → Type 0
FollowsPart last input old new =
    (hidden : List Line) × IsHidden last input hidden × WritesPart (start_of last hidden old) input new

-- the outcome of following: all lines were written, and this is the exit status; or the trace could not be read
-- further, or its lines could not be written
abbrev pub Follows : Option ℕ → Option (List ℕ) → ℕ → KnownOutput → KnownOutput → Type 0
Follows last input status old new =
    ((stop : Option ViewEnd) × (line : Option ℕ) × (status ≡ stop_status stop)
    × FollowsAll last input stop line old new)
    ⊎ (EndsUnwritten status new × FollowsPart last input old new)

-- the reader checks the laws
abbrev pub judges : Reader → Bool
judges (Run state) = true
judges (Part state) = false

-- the reader has taken the text, and these are the lines for it
abbrev pub HasLines : Reader → List Line → List ℕ → Type 0
HasLines (Run state) past_lines text = HasFollowedText state past_lines text
HasLines (Part state) past_lines text = HasTold state past_lines text

-- the reader is of the right kind for the text, whatever follows the text
abbrev pub IsFor : Option ℕ → Reader → List ℕ → Type 0
IsFor last reader text = (more : List ℕ) → is_judged last (text ++ more) ≡ judges reader

-- the lines for the text were written
abbrev pub HasWritten : Start → Reader → List ℕ → KnownOutput → Type 0
HasWritten start reader text now =
    (shown : List Line) × IsFor start.last reader text × HasLines reader (start.hidden ++ shown) text
    × WritesLines start.heard now shown

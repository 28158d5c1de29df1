-- How a trace is judged: the verdict that is written, and the report about a breach.
use Rattle.std.specs.Prelude.{◌≡◌, ◌⊎◌, ◌==◌, ◌&&◌, if◌then◌else◌, not, nat_lt, ℕ, Bool, true, false, List, [], ◌++◌}
use Rattle.std.specs.Prelude.{codes, decimal, Option, Some, None, option_map, slice_get}
use Rattle.std.specs.Io.KnownBytes.{Appends, Keeps}
use Rattle.initd_command.specs.Words.{AppendsPrefix, IsTextAt, KnownTexts, law_number, law_words, CheckArguments}
use Rattle.trace_verdict.specs.declared.findings.Finding.{Finding}
use Rattle.trace_verdict.specs.declared.findings.Finding.TheVariants.{Lawful, Breach, Torn}
use Rattle.trace_verdict.specs.Answers.{Named, Answers}
use Rattle.trace_verdict.specs.Judges.{HasTaken, TextState}
use Rattle.initd_command.specs.declared.check.JudgedTrace.{JudgedTrace}
use Rattle.initd_command.specs.declared.run.Obstacle.TheVariants.{Memory}
use Rattle.initd_command.specs.Lines.{front_line}
use Rattle.initd_command.specs.Endings.{Ending, EndsUnread, TraceJudgement, refused, lawful, unlawful, torn, unfinished}
use Rattle.initd_command.specs.Endings.{unwritten}

-- the report about a trace, in addition to the verdict
abbrev pub judged_of : JudgedTrace → TraceJudgement
judged_of told = record {
  within = option_map (λ path. path.now) told.within;
  open_line = told.open_line;
  count = told.count;
}

-- the verdict on a lawful trace
abbrev pub lawful_text : List ℕ
lawful_text = codes "lawful\n"

-- the verdict on a trace whose happening at this position, counted from 0, breaks this law
abbrev pub verdict_text : ℕ → ℕ → List ℕ
verdict_text position law =
    codes "unlawful: happening " ++ (decimal position ++ (codes ", law " ++ (decimal law ++ codes "\n")))

-- the verdict on a trace with this breach
abbrev pub unlawful_text : Named → List ℕ
unlawful_text breach = verdict_text breach.position (law_number breach.law)

-- the verdict for a finding; empty if the text has a line at which no happening begins
abbrev pub verdict_of : Finding Named → List ℕ
verdict_of Lawful = lawful_text
verdict_of (Breach breach) = unlawful_text breach
verdict_of (Torn number) = []

-- the line `line NUMBER: LINE: LAW` about the first line of the happening that breaks the law
abbrev pub breach_message : Named → List ℕ
breach_message breach = codes "line " ++ decimal breach.line ++ codes ": " ++ front_line breach.text
    ++ codes ": " ++ law_words breach.law ++ codes "\n"

-- the path of a text that begins within a run, as its first byte and the number of its happenings show: a run begins
-- with `use`, and the text of no other happening begins with `u`
abbrev pub within_of : List ℕ → Option ℕ → ℕ → Option (List ℕ)
within_of path None count = None
within_of path (Some byte) count = if not (byte == 117) && nat_lt 0 count then Some path else None

-- the judge has taken the text, and this is the first byte of the text
abbrev pub IsJudge : TextState → Option ℕ → List ℕ → Type 0
IsJudge judge first text = HasTaken judge text × (first ≡ slice_get text 0)

-- how `initd check` ends for a lawful trace
abbrev pub EndsLawful : TraceJudgement → Ending → Option (List ℕ) → Option (List ℕ) → Type 0
EndsLawful judged (lawful told) old new = (told ≡ judged) × Appends old new lawful_text
EndsLawful judged unwritten old new = AppendsPrefix old new lawful_text
EndsLawful judged _ old new = ⊥

-- how `initd check` ends for a trace with this breach
abbrev pub EndsBreach : Named → TraceJudgement → Ending → Option (List ℕ) → Option (List ℕ) → Type 0
EndsBreach breach judged (unlawful message told) old new =
    (message ≡ breach_message breach) × (told ≡ judged) × Appends old new (unlawful_text breach)
EndsBreach breach judged unwritten old new = AppendsPrefix old new (unlawful_text breach)
EndsBreach breach judged (refused Memory) old new = Keeps old new
EndsBreach breach judged _ old new = ⊥

-- how `initd check` ends for a text with a line at which no happening begins
abbrev pub EndsTorn : ℕ → Ending → Option (List ℕ) → Option (List ℕ) → Type 0
EndsTorn number (torn told) old new = (told ≡ number) × Keeps old new
EndsTorn number _ old new = ⊥

-- how `initd check` ends for a text with this finding
abbrev pub EndsFound : Finding Named → TraceJudgement → Ending → Option (List ℕ) → Option (List ℕ) → Type 0
EndsFound Lawful judged ending old new = EndsLawful judged ending old new
EndsFound (Breach breach) judged ending old new = EndsBreach breach judged ending old new
EndsFound (Torn number) judged ending old new = EndsTorn number ending old new

-- the line at which the last happening is incomplete, if that is a fault: a trace that is growing is judged up to it
abbrev pub cut_at : Bool → Option ℕ → Option ℕ
cut_at true open_line = None
cut_at false open_line = open_line

-- how `initd check` ends for a text that is incomplete at this line: the text is not a trace, and the verdict on the
-- part before the line is reported
abbrev pub EndsUnfinished : ℕ → Finding Named → Ending → Option (List ℕ) → Option (List ℕ) → Type 0
EndsUnfinished line finding (unfinished at verdict) old new =
    (at ≡ line) × (verdict ≡ verdict_of finding) × Keeps old new
EndsUnfinished line finding _ old new = ⊥

-- how `initd check` ends for a text with this finding that may be incomplete at a line
abbrev pub EndsTold : Option ℕ → Finding Named → TraceJudgement → Ending → Option (List ℕ) → Option (List ℕ) → Type 0
EndsTold None finding judged ending old new = EndsFound finding judged ending old new
EndsTold (Some line) finding judged ending old new = EndsUnfinished line finding ending old new

-- how `initd check` ends for a text: as the correct finding on the text requires
abbrev pub EndsTrace : CheckArguments → List ℕ → Ending → Option (List ℕ) → Option (List ℕ) → Type 0
EndsTrace options text ending old new = (finding : Finding Named) × (open_line : Option ℕ) × (count : ℕ)
    × Answers text finding open_line count
    × EndsTold (cut_at options.growing open_line) finding (record {
      within = within_of options.trace (slice_get text 0) count;
      open_line = open_line;
      count = count;
    }) ending old new

-- how `initd check` ends for a path: the text at the path is not read, or the command ends as it must for that text
abbrev pub EndsCheck : KnownTexts → CheckArguments → Ending → Option (List ℕ) → Option (List ℕ) → Type 0
EndsCheck text_at options ending old new = EndsUnread options.trace ending old new
    ⊎ ((text : List ℕ) × IsTextAt text_at options.trace text × EndsTrace options text ending old new)

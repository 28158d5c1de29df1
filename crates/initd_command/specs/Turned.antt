-- How the turns of a run ended: its exit status, and its reports.
use Rattle.std.specs.Prelude.{◌≡◌, ◌⊎◌, ◌||◌, ◌==◌, if◌then◌else◌, unwrap_or, ℕ, Bool, true, false, List, [], ◌∷◌, ◌++◌}
use Rattle.std.specs.Prelude.{codes, decimal, Option, Some, None}
use Rattle.initd_command.specs.Words.{AppendsReport, ReportList, DONE, UNLAWFUL, LIMIT_REACHED, DEVICE_FAULT, Judgement}
use Rattle.initd_command.specs.Words.{Status}
use Rattle.initd_command.specs.Words.{law_words}
use Rattle.init_words.specs.declared.children.Status.TheVariants.{Exit, Killed}
use Rattle.trace_log_wrappers.specs.declared.judgements.Judgement.TheVariants.{Lawful, Breach, Unjudged}
use Rattle.initd_command.specs.declared.ends.TheConstants.{KILLED, LIMITED, UNJUDGED, UNLOGGED, UNNAMED}
use Rattle.initd_command.specs.declared.reports.TheConstants.{NO_MEMORY}

-- The entry of --result, and how its last child ended, if one has ended.
pub record EntryEnd : Type 0 where
  pub id : List ℕ
  pub last : Option Status

-- How turns ended:
-- - `drained`: the run ended because init is drained; with the end of the entry of --result, if that is given
-- - `limited`: the run made all its turns. These children, with their numbers, are still running (none if there was no
--   memory to note all of them), and these lines say what init waits for.
-- - `unlogged`: the trace was not written in full. The flag says whether the run made all its turns, and the lines say
--   what init waits for.
pub data TurnsEnd : Type 0 where
  drained : Option EntryEnd → TurnsEnd
  limited : Option (List (List ℕ × ℕ)) → List ℕ → TurnsEnd
  unlogged : Bool → List ℕ → TurnsEnd

-- how the turns ended; whether their trace was written in full; and the verdict on them, if they were to be judged
pub record End : Type 0 where
  pub turns : TurnsEnd
  pub whole : Bool
  pub judgement : Option Judgement

-- the exit status of a run, given how an entry's last child ended, if one has ended
abbrev pub result_status : Option Status → ℕ
result_status (Some (Exit code)) = code
result_status (Some Killed) = KILLED
result_status None = DEVICE_FAULT

-- the exit status of a run that ended because init is drained
abbrev pub drained_status : Option EntryEnd → ℕ
drained_status None = DONE
drained_status (Some entry) = result_status entry.last

-- the exit status that a verdict requires, if it is a breach or not everything was judged; none otherwise
abbrev pub judgement_status : Judgement → Option ℕ
judgement_status (Lawful count) = None
judgement_status (Breach position law) = Some UNLAWFUL
judgement_status Unjudged = Some DEVICE_FAULT

-- the exit status of a run, given the status of its turns: the verdict replaces success and the limit of turns if it
-- is a breach, or if not everything was judged
abbrev pub judged_status : Option Judgement → ℕ → ℕ
judged_status None status = status
judged_status (Some judgement) status =
    if status == DONE || status == LIMIT_REACHED then unwrap_or (judgement_status judgement) status else status

-- the exit status of the turns, without a verdict
abbrev pub turns_status : TurnsEnd → ℕ
turns_status (drained result) = drained_status result
turns_status (limited running waiting) = LIMIT_REACHED
turns_status (unlogged is_limited waiting) = DEVICE_FAULT

-- the exit status of a run
abbrev pub end_status : End → ℕ
end_status end = judged_status end.judgement (turns_status end.turns)

-- the part of a report that says how the last child of an entry ended
abbrev pub last_text : Option Status → List ℕ
last_text (Some (Exit code)) = codes " exited with status " ++ (decimal code ++ codes "\n")
last_text (Some Killed) = codes " was killed\n"
last_text None = codes " never ended\n"

-- the report about how the last child of an entry ended
abbrev pub result_text : EntryEnd → List ℕ
result_text entry = codes "initd: " ++ (entry.id ++ last_text entry.last)

-- a child that is still running: its id and its number
abbrev pub child_text : List ℕ × ℕ → List ℕ
child_text child = child.0 ++ (codes " " ++ decimal child.1)

-- the children, separated by commas, with this text before the first one
abbrev pub listed_after : List ℕ → List (List ℕ × ℕ) → List ℕ
listed_after front [] = []
listed_after front (child ∷ children) = front ++ (child_text child ++ listed_after (codes ", ") children)

-- the report about the children that are still running
abbrev pub running_text : List (List ℕ × ℕ) → List ℕ
running_text children = listed_after (codes "initd: still running: ") children ++ codes "\n"

-- the report that this many happenings broke no law: all happenings of the run, or, if its log failed, the judged ones
abbrev pub lawful_text : Bool → ℕ → List ℕ
lawful_text true count = codes "initd: the run was lawful: " ++ (decimal count ++ codes " happenings\n")
lawful_text false count =
    codes "initd: the judged part of the run was lawful: " ++ (decimal count ++ codes " happenings\n")

-- the report that the happening at this position breaks a law
abbrev pub breach_text : ℕ → List ℕ → List ℕ
breach_text position why =
    codes "initd: the run was unlawful: happening " ++ (decimal position ++ (codes ": " ++ (why ++ codes "\n")))

-- the report about the verdict on a run, given whether its trace was written in full
abbrev pub judgement_text : Bool → Judgement → List ℕ
judgement_text whole (Lawful count) = lawful_text whole count
judgement_text whole (Breach position law) = breach_text position (law_words law)
judgement_text whole Unjudged = UNJUDGED.now

-- the text is reported, or it is reported that there was no memory for the text
abbrev pub ReportsText : List ℕ → ReportList → ReportList → Type 0
ReportsText text old new = AppendsReport old new text ⊎ AppendsReport old new NO_MEMORY.now

-- if --result is given, it is reported how the last child of its entry ended
abbrev pub ReportsResult : Option EntryEnd → ReportList → ReportList → Type 0
ReportsResult None old new = new ≡ old
ReportsResult (Some entry) old new = ReportsText (result_text entry) old new

-- the children that are still running are reported, if there are any; or it is reported that there was no memory to
-- note all of them
abbrev pub ReportsRunning : Option (List (List ℕ × ℕ)) → ReportList → ReportList → Type 0
ReportsRunning None old new = AppendsReport old new UNNAMED.now
ReportsRunning (Some []) old new = new ≡ old
ReportsRunning (Some (child ∷ children)) old new = ReportsText (running_text (child ∷ children)) old new

-- the verdict is reported, if the run was to be judged
abbrev pub ReportsJudgement : Bool → Option Judgement → ReportList → ReportList → Type 0
ReportsJudgement whole None old new = new ≡ old
ReportsJudgement whole (Some judgement) old new = ReportsText (judgement_text whole judgement) old new

-- if all turns were made, the report: that the limit is reached, the children that are still running, and what init
-- waits for
abbrev pub ReportsLimit : Option (List (List ℕ × ℕ)) → List ℕ → ReportList → ReportList → Type 0
ReportsLimit running waiting old new =
    (limit : ReportList) × AppendsReport old limit LIMITED.now
    × (mid : ReportList) × ReportsRunning running limit mid × ReportsText waiting mid new

-- the report about how the turns ended; if the trace was not written in full, the report may name any children
abbrev pub ReportsTurns : TurnsEnd → ReportList → ReportList → Type 0
ReportsTurns (drained result) old new = ReportsResult result old new
ReportsTurns (limited running waiting) old new = ReportsLimit running waiting old new
ReportsTurns (unlogged true waiting) old new =
    (lost : ReportList) × AppendsReport old lost UNLOGGED.now
    × (running : Option (List (List ℕ × ℕ))) × ReportsLimit running waiting lost new
ReportsTurns (unlogged false waiting) old new =
    (lost : ReportList) × AppendsReport old lost UNLOGGED.now × ReportsText waiting lost new

-- the report about how a run ended
abbrev pub ReportsEnd : End → ReportList → ReportList → Type 0
ReportsEnd end old new = (mid : ReportList) × ReportsTurns end.turns old mid
    × ReportsJudgement end.whole end.judgement mid new

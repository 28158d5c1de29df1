-- A run of all scripts writes the lines of all of them.
use Rattle.rc_command.proofs.CommonWords.{◌≡◌, ◌≢◌, ◌⊎◌, ◌∙◌, inl, inr, refl, sym, arith, ℕ, ◌-◌, Bool, true, false}
use Rattle.rc_command.proofs.CommonWords.{cond, ◌||◌, List, [], ◌∷◌, length, Option, ap, subst, true≢false, Asked}
use Rattle.rc_command.proofs.CommonWords.{RcArguments, entering, arguments_at, RunOptions, AreNames}
use Rattle.rc_command.proofs.CommonWords.{ForResolvedArguments, IsBefore}
use Rattle.rc_command.proofs.CommonWords.{IsStatusOf, AllScriptsEnded, Reports, ReportsFirst, ReportsNames}
use Rattle.rc_command.proofs.CommonWords.{RunsRequestedScripts}
use Rattle.rc_command.proofs.CommonWords.{RunsNames, RunsArguments, RunsScripts, ReportsEnd, rc_of, status_of, written}
use Rattle.rc_command.proofs.CommonWords.{LinkRun, RcState, is_failure, writes_ends}
use Rattle.std.specs.Io.KnownBytes.{Appends}
use Rattle.program_io.specs.Reports.{ReportList}
use Rattle.program_io.specs.Writing.{AppendsPrefix}
use Rattle.program_io.specs.declared.statuses.TheConstants.{DEVICE_FAULT, DONE, LIMIT_REACHED}
use Rattle.host_calls.specs.Calls.{HostCall}
use Rattle.host_calls.specs.Record.{NewCallsSatisfy}
use Rattle.host_calls.proofs.Record.{NewCallsSatisfy-map}
use Rattle.init_words.specs.declared.levels.Level.{Level}
use Rattle.rc_command.specs.LevelFiles.{KnownFiles}
use Rattle.rc_command.specs.Folders.{AreNamesAt, ArePrevious, KnownNames, folder_of}
use Rattle.rc_command.specs.declared.running.TheConstants.{PAUSES_LIMIT}
use Rattle.rc_driver.specs.declared.driving.RunEnd.{RunEnd}
use Rattle.rc_driver.specs.declared.driving.RunEnd.TheVariants as run_end
use Rattle.rc_driver.specs.declared.runs.RcAnswer.{RcAnswer}
use Rattle.rc_driver.specs.declared.runs.ScriptOptions.{ScriptOptions}
use Rattle.rc_driver.specs.Printing.{PrintsLinks, command_lines}
use Rattle.rc_driver.specs.Progress.{count_pauses}
use Rattle.rc_driver.specs.Report.{Output, done_end, is_over, output, report}
use Rattle.rc_driver.specs.Sysv.{scripts_by}
use Rattle.rc_driver.specs.Told.{ScriptsEndAt, RunsFrom, RunsLinks}

-- a complete run does not wait for a script
done_is_not_waiting : (failed : Bool) → done_end failed ≢ run_end.Waiting
done_is_not_waiting true = λ is. cc
done_is_not_waiting false = λ is. cc

runs_on : (way : ScriptOptions) (dir : List ℕ) (pauses : ℕ) (failed : Bool) (scripts : List LinkRun) (before : Output)
    (ended : RunEnd) (remaining : List LinkRun) (after : Output) (calls : List HostCall)
    → RunsFrom way dir pauses failed scripts before ended remaining after calls → ended ≢ run_end.Waiting
runs_on way dir pauses failed [] before ended remaining after calls (is, none, same, no_calls) =
    λ waiting. done_is_not_waiting failed (sym is ∙ waiting)
runs_on way dir pauses failed (s ∷ scripts) before ended remaining after calls (inl (at, behind)) =
    λ waiting. subst (λ e. ScriptsEndAt way dir pauses s before e after calls) waiting at
runs_on way dir pauses failed (s ∷ scripts) before ended remaining after calls
    (inr (given, first, later, between, is, ran, line, rest)) =
    runs_on way dir (pauses - count_pauses first)
    (failed || is_failure given) scripts between ended remaining after later rest

pub not_waiting : (old now : Option (List HostCall)) (way : ScriptOptions) (dir : List ℕ) (pauses : ℕ) (failed : Bool)
    (rc new : RcState) (before after : Output) (ended : RunEnd)
    → rc.waits ≡ false → NewCallsSatisfy old now (RunsLinks way dir pauses failed rc before ended new after)
    → ended ≢ run_end.Waiting
not_waiting old now way dir pauses failed rc new before after ended ready (calls, told, runs) =
    runs_on way dir pauses failed rc.remaining before ended new.remaining after calls (runs.runs ready)

-- a run, with the report of its end
pub runs_scripts : (options : RunOptions) (old now : Option (List HostCall)) (dir : List ℕ) (rc new : RcState)
    (before after : Option (List ℕ)) (told between tells : ReportList) (ended : RunEnd) (status : ℕ)
    → status ≡ status_of options.strict ended → ReportsEnd dir ended between tells
    → NewCallsSatisfy old now
    (RunsLinks options.way dir PAUSES_LIMIT false rc (output before told) ended new (output after between))
    → NewCallsSatisfy old now (RunsScripts options dir rc before told status after tells)
runs_scripts options old now dir rc new before after told between tells ended status of reports since =
    NewCallsSatisfy-map old now (RunsLinks options.way dir PAUSES_LIMIT false rc (output before told) ended new
    (output after between)) (RunsScripts options dir rc before told status after tells) since
    (λ calls runs. (ended, new, between, runs, of, reports))

-- which exit statuses mean that all scripts were carried out
limit_is_not_whole : AllScriptsEnded LIMIT_REACHED → ⊥
limit_is_not_whole (inl is) = omega (arith, is)
limit_is_not_whole (inr is) = omega (arith, is)

fault_is_not_whole : AllScriptsEnded DEVICE_FAULT → ⊥
fault_is_not_whole (inl is) = omega (arith, is)
fault_is_not_whole (inr is) = omega (arith, is)

pub not_whole_limit : (status : ℕ) → status ≡ LIMIT_REACHED → AllScriptsEnded status → ⊥
not_whole_limit status is whole = limit_is_not_whole (subst AllScriptsEnded is whole)

pub not_whole_fault : (status : ℕ) → status ≡ DEVICE_FAULT → AllScriptsEnded status → ⊥
not_whole_fault status is whole = fault_is_not_whole (subst AllScriptsEnded is whole)

abbrev IsKnown : ℕ → Type 0
IsKnown status = AllScriptsEnded status ⊎ (status ≡ LIMIT_REACHED) ⊎ (status ≡ DEVICE_FAULT)

known : (strict : Bool) (ended : RunEnd) → IsKnown (status_of strict ended)
known strict run_end.Done = inl (inl refl)
known true run_end.Failed = inl (inr refl)
known false run_end.Failed = inl (inl refl)
known strict (run_end.Limit link) = inr (inl refl)
known strict run_end.Waiting = inr (inr refl)
known strict run_end.Write = inr (inr refl)
known strict run_end.Memory = inr (inr refl)

pub known_by : (strict : Bool) (ended : RunEnd) (status : ℕ) → status ≡ status_of strict ended → IsKnown status
known_by strict ended status of = subst IsKnown (sym of) (known strict ended)

-- only a run that is over has such a status
over : (strict : Bool) (ended : RunEnd) → AllScriptsEnded (status_of strict ended) → is_over ended ≡ true
over strict run_end.Done whole = refl
over strict run_end.Failed whole = refl
over strict (run_end.Limit link) whole = absurd (limit_is_not_whole whole)
over strict run_end.Waiting whole = absurd (fault_is_not_whole whole)
over strict run_end.Write whole = absurd (fault_is_not_whole whole)
over strict run_end.Memory whole = absurd (fault_is_not_whole whole)

if_true : {A : Type 0} (b : Bool) (x y : A) → b ≡ true → cond b x y ≡ x
if_true true x y is = refl
if_true false x y is = absurd (true≢false (sym is))

if_false : {A : Type 0} (b : Bool) (x y : A) → b ≡ false → cond b x y ≡ y
if_false true x y is = absurd (true≢false is)
if_false false x y is = refl

-- the output of scripts that were run
run_text : (options : RunOptions) (path : List ℕ) (previous names : List (List ℕ)) (rc : RcState)
    (answers : List RcAnswer) → rc ≡ rc_of options.way.levels previous names
    → options.dry ≡ false → report options.way rc.remaining answers ≡ written options path previous names answers
run_text options path previous names rc answers is wet =
    ap (λ (r : RcState). report options.way r.remaining answers) is
    ∙ sym (if_false options.dry (command_lines options.way path (scripts_by options.way.levels previous names))
    (report options.way (scripts_by options.way.levels previous names) answers) wet)

-- the output of a dry run
dry_text : (options : RunOptions) (path : List ℕ) (previous names : List (List ℕ)) (rc : RcState)
    (answers : List RcAnswer) → rc ≡ rc_of options.way.levels previous names
    → options.dry ≡ true → command_lines options.way path rc.remaining ≡ written options path previous names answers
dry_text options path previous names rc answers is dry =
    ap (λ (r : RcState). command_lines options.way path r.remaining) is
    ∙ sym (if_true options.dry (command_lines options.way path (scripts_by options.way.levels previous names))
    (report options.way (scripts_by options.way.levels previous names) answers) dry)

-- a run of the scripts for the names in two folders
pub run_reports : (options : RunOptions) (path : List ℕ) (previous names : List (List ℕ))
    (old now : Option (List HostCall)) (rc : RcState) (before after : Option (List ℕ)) (told tells : ReportList)
    (status : ℕ)
    → rc ≡ rc_of options.way.levels previous names → options.dry ≡ false
    → NewCallsSatisfy old now (RunsScripts options path rc before told status after tells)
    → AllScriptsEnded status → ReportsNames options path previous names before status after
run_reports options path previous names old now rc before after told tells status is wet
    (calls, at, (ended, new, between, runs, of, reports)) whole =
    let went = writes_ends old now options.way path PAUSES_LIMIT rc new (output before told)
    (output after between) ended (calls, at, runs) in
    let all = went.whole (over options.strict ended (subst AllScriptsEnded of whole)) in (
      went.answers,
      (
        (λ dry. absurd (true≢false (sym dry ∙ wet))),
        (λ _. (all.1 ∙ ap (λ (r : RcState). length r.remaining) is, of ∙ ap (status_of options.strict) all.0)),
      ),
      subst (Appends before after) (run_text options path previous names rc went.answers is wet) all.2,
    )

pub run_part : (options : RunOptions) (path : List ℕ) (previous names : List (List ℕ))
    (old now : Option (List HostCall)) (rc : RcState) (before after : Option (List ℕ)) (told tells : ReportList)
    (status : ℕ)
    → rc ≡ rc_of options.way.levels previous names → options.dry ≡ false
    → NewCallsSatisfy old now (RunsScripts options path rc before told status after tells)
    → ReportsFirst options path previous names before after
run_part options path previous names old now rc before after told tells status is wet
    (calls, at, (ended, new, between, runs, of, reports)) =
    let went = writes_ends old now options.way path PAUSES_LIMIT rc new (output before told)
    (output after between) ended (calls, at, runs) in (
      went.answers,
      subst (AppendsPrefix before after) (run_text options path previous names rc went.answers is wet) went.part,
    )

pub run_names : (options : RunOptions) (path : List ℕ) (previous names : List (List ℕ))
    (old now : Option (List HostCall)) (rc : RcState) (before after : Option (List ℕ)) (told tells : ReportList)
    (status : ℕ)
    → rc ≡ rc_of options.way.levels previous names
    → NewCallsSatisfy old now (RunsScripts options path rc before told status after tells)
    → NewCallsSatisfy old now (RunsNames options path previous names before told status after tells)
run_names options path previous names old now rc before after told tells status is since =
    subst (λ r. NewCallsSatisfy old now (RunsScripts options path r before told status after tells)) is since

-- a dry run of them
pub dry_reports : (options : RunOptions) (path : List ℕ) (previous names : List (List ℕ)) (rc : RcState)
    (before after : Option (List ℕ)) (status : ℕ) → rc ≡ rc_of options.way.levels previous names
    → options.dry ≡ true → (status ≡ DONE) ⊎ (status ≡ DEVICE_FAULT)
    → (status ≡ DONE → Appends before after (command_lines options.way path rc.remaining))
    → AllScriptsEnded status → ReportsNames options path previous names before status after
dry_reports options path previous names rc before after status is dry (inl done) text whole = (
  [],
  ((λ _. done), (λ wet. absurd (true≢false (sym dry ∙ wet)))),
  subst (Appends before after) (dry_text options path previous names rc [] is dry) (text done),
)
dry_reports options path previous names rc before after status is dry (inr fault) text whole =
    absurd (not_whole_fault status fault whole)

pub dry_part : (options : RunOptions) (path : List ℕ) (previous names : List (List ℕ)) (rc : RcState)
    (before after : Option (List ℕ)) → rc ≡ rc_of options.way.levels previous names
    → options.dry ≡ true → AppendsPrefix before after (command_lines options.way path rc.remaining)
    → ReportsFirst options path previous names before after
dry_part options path previous names rc before after is dry part =
    ([], subst (AppendsPrefix before after) (dry_text options path previous names rc [] is dry) part)

pub dry_known : (status : ℕ) → (status ≡ DONE) ⊎ (status ≡ DEVICE_FAULT) → IsKnown status
dry_known status (inl done) = inl (inl done)
dry_known status (inr fault) = inr (inr fault)

-- how a dry run ends
print_ends : (way : ScriptOptions) (path : List ℕ) (rc new : RcState) (before after : Option (List ℕ)) (ended : RunEnd)
    → rc.waits ≡ false → PrintsLinks way path rc before ended new after
    → (ended ≡ run_end.Done) ⊎ (ended ≡ run_end.Write) ⊎ (ended ≡ run_end.Memory)
print_ends way path rc new before after ended ready prints = prints.ends ready

pub print_not_waiting : (way : ScriptOptions) (path : List ℕ) (rc new : RcState) (before after : Option (List ℕ))
    (ended : RunEnd) → rc.waits ≡ false
    → PrintsLinks way path rc before ended new after → ended ≢ run_end.Waiting
print_not_waiting way path rc new before after ended ready prints =
    by (print_ends way path rc new before after ended ready prints)
  where
    by : (ended ≡ run_end.Done) ⊎ (ended ≡ run_end.Write) ⊎ (ended ≡ run_end.Memory) → ended ≢ run_end.Waiting
    by (inl is) = λ waiting. let both : run_end.Done ≡ run_end.Waiting = sym is ∙ waiting in cc
    by (inr (inl is)) = λ waiting. let both : run_end.Write ≡ run_end.Waiting = sym is ∙ waiting in cc
    by (inr (inr is)) = λ waiting. let both : run_end.Memory ≡ run_end.Waiting = sym is ∙ waiting in cc

pub print_known : (way : ScriptOptions) (path : List ℕ) (rc new : RcState) (before after : Option (List ℕ))
    (ended : RunEnd) (status : ℕ) → rc.waits ≡ false
    → status ≡ status_of false ended → PrintsLinks way path rc before ended new after
    → (status ≡ DONE) ⊎ (status ≡ DEVICE_FAULT)
print_known way path rc new before after ended status ready of prints =
    by (print_ends way path rc new before after ended ready prints)
  where
    by : (ended ≡ run_end.Done) ⊎ (ended ≡ run_end.Write) ⊎ (ended ≡ run_end.Memory)
        → (status ≡ DONE) ⊎ (status ≡ DEVICE_FAULT)
    by (inl is) = inl (of ∙ ap (status_of false) is)
    by (inr (inl is)) = inr (of ∙ ap (status_of false) is)
    by (inr (inr is)) = inr (of ∙ ap (status_of false) is)

pub print_done : (way : ScriptOptions) (path : List ℕ) (rc new : RcState) (before after : Option (List ℕ))
    (ended : RunEnd) (status : ℕ) → rc.waits ≡ false
    → status ≡ status_of false ended → PrintsLinks way path rc before ended new after → status ≡ DONE
    → Appends before after (command_lines way path rc.remaining)
print_done way path rc new before after ended status ready of prints done =
    by (print_ends way path rc new before after ended ready prints)
  where
    by : (ended ≡ run_end.Done) ⊎ (ended ≡ run_end.Write) ⊎ (ended ≡ run_end.Memory)
        → Appends before after (command_lines way path rc.remaining)
    by (inl is) = let whole = prints.whole is in whole.0
    by (inr (inl is)) = absurd (not_whole_fault status (of ∙ ap (status_of false) is) (inl done))
    by (inr (inr is)) = absurd (not_whole_fault status (of ∙ ap (status_of false) is) (inl done))

-- the names that were listed are those in the two folders of the run
pub are_names : (names_at : KnownNames) (arguments : RcArguments) (dir path : List ℕ) (previous names : List (List ℕ))
    → dir ≡ arguments.dir → path ≡ folder_of dir arguments.new
    → ArePrevious names_at dir arguments.previous previous → AreNamesAt names_at path names
    → AreNames names_at arguments previous names
are_names names_at arguments dir path previous names same at before here = (
  subst (λ d. ArePrevious names_at d arguments.previous previous) same before,
  subst (λ p. AreNamesAt names_at p names) (at ∙ ap (λ d. folder_of d arguments.new) same) here,
)

-- a run of the folder that the command line names
folder_is : (arguments : RcArguments) (dir path : List ℕ) → dir ≡ arguments.dir → path ≡ folder_of dir arguments.new
    → path ≡ folder_of arguments.dir arguments.new
folder_is arguments dir path same at = at ∙ ap (λ d. folder_of d arguments.new) same

pub said_reports : (names_at : KnownNames) (arguments : RcArguments) (dir path listed : List ℕ)
    (previous names : List (List ℕ))
    (before after : Option (List ℕ)) (status : ℕ)
    → dir ≡ arguments.dir → path ≡ folder_of dir arguments.new → listed ≡ folder_of dir arguments.new
    → ArePrevious names_at dir arguments.previous previous → AreNamesAt names_at listed names
    → ReportsNames arguments.options path previous names before status after
    → Reports names_at arguments before status after
said_reports names_at arguments dir path listed previous names before after status same at there first here all = (
  previous,
  names,
  are_names names_at arguments dir listed previous names same there first here,
  subst (λ p. ReportsNames arguments.options p previous names before status after)
      (folder_is arguments dir path same at) all,
)

pub said_runs : (names_at : KnownNames) (arguments : RcArguments) (dir path listed : List ℕ)
    (previous names : List (List ℕ))
    (old new : Option (List HostCall)) (before : Option (List ℕ)) (told : ReportList) (after : Option (List ℕ))
    (tells : ReportList) (status : ℕ)
    → dir ≡ arguments.dir → path ≡ folder_of dir arguments.new → listed ≡ folder_of dir arguments.new
    → ArePrevious names_at dir arguments.previous previous → AreNamesAt names_at listed names
    → NewCallsSatisfy old new (RunsNames arguments.options path previous names before told status after tells)
    → RunsArguments names_at arguments old new before told status after tells
said_runs names_at arguments dir path listed previous names old new before told after tells status same
    at there first here runs = (
      previous,
      names,
      are_names names_at arguments dir listed previous names same there first here,
      subst (λ p. NewCallsSatisfy old new (RunsNames arguments.options p previous names before told status after tells))
          (folder_is arguments dir path same at) runs,
    )

-- if the final status means that all scripts were carried out, it is the status of the run
pub whole_status : (file : Option (List ℕ)) (inner : ℕ) (told : ReportList) (status : ℕ) (tells : ReportList)
    → IsStatusOf file inner told status tells → AllScriptsEnded status → status ≡ inner
whole_status file inner told status tells (inl (is, same)) whole = is
whole_status file inner told status tells (inr (named, fault, was)) whole = absurd (not_whole_fault status fault whole)

-- a fault of the run is one of the whole
pub fault_of : (file : Option (List ℕ)) (inner : ℕ) (told : ReportList) (status : ℕ) (tells : ReportList)
    → IsStatusOf file inner told status tells → inner ≡ DEVICE_FAULT → status ≡ DEVICE_FAULT
fault_of file inner told status tells (inl (is, same)) fault = is ∙ fault
fault_of file inner told status tells (inr (named, fault, was)) _ = fault

-- a known status of the run is a known status of the whole
pub known_of : (file : Option (List ℕ)) (inner : ℕ) (told : ReportList) (status : ℕ) (tells : ReportList)
    → IsStatusOf file inner told status tells → IsKnown inner → IsKnown status
known_of file inner told status tells (inl (is, same)) known = subst IsKnown (sym is) known
known_of file inner told status tells (inr (named, fault, was)) known = inr (inr fault)

-- a property of the folder, the change of level and the options that are run is one of what the command line asks for
pub asks_for : (file_at : KnownFiles) (asked : Asked) (before : Option Level) (dir : List ℕ) (options : RunOptions)
    (P : RcArguments → Type 0)
    → IsBefore file_at asked before → dir ≡ asked.dir
    → options ≡ entering asked.sysv (record { before = before; new = asked.new }) asked.options
    → P (arguments_at dir (record { before = before; new = asked.new }) options) → ForResolvedArguments file_at asked P
asks_for file_at asked before dir options P is same so holds = (
  before,
  is,
  subst (λ o. P (arguments_at asked.dir (record { before = before; new = asked.new }) o)) so
      (subst (λ d. P (arguments_at d (record { before = before; new = asked.new }) options)) same holds),
)

-- if all scripts were carried out, the lines of the run are those that the command line asks for
pub reports_asked : (file_at : KnownFiles) (names_at : KnownNames) (asked : Asked) (before : Option Level)
    (dir : List ℕ) (options : RunOptions) (inner status : ℕ)
    (out : Option (List ℕ)) (told : ReportList) (after : Option (List ℕ)) (tells : ReportList)
    → IsBefore file_at asked before → dir ≡ asked.dir
    → options ≡ entering asked.sysv (record { before = before; new = asked.new }) asked.options
    → IsStatusOf asked.file inner told status tells
    → (AllScriptsEnded inner
    → Reports names_at (arguments_at dir (record { before = before; new = asked.new }) options) out inner after)
    → AllScriptsEnded status
    → ForResolvedArguments file_at asked (λ arguments. Reports names_at arguments out status after)
reports_asked file_at names_at asked before dir options inner status out told after tells is same so ends reports
    whole =
    let e = whole_status asked.file inner told status tells ends whole in
    asks_for file_at asked before dir options (λ arguments. Reports names_at arguments out status after) is same so
    (subst (λ s. Reports names_at (arguments_at dir (record { before = before; new = asked.new }) options) out s after)
    (sym e) (reports (subst AllScriptsEnded e whole)))

-- the scripts that were run are those that the command line asks for, if nothing was reported before
pub runs_asked : (file_at : KnownFiles) (names_at : KnownNames) (asked : Asked) (before : Option Level) (dir : List ℕ)
    (options : RunOptions) (inner status : ℕ)
    (old new : Option (List HostCall)) (out : Option (List ℕ)) (first told between : ReportList)
    (after : Option (List ℕ)) (tells : ReportList)
    → IsBefore file_at asked before → dir ≡ asked.dir
    → options ≡ entering asked.sysv (record { before = before; new = asked.new }) asked.options
    → IsStatusOf asked.file inner between status tells → told ≡ first
    → (options.dry ≡ true → new ≡ old)
    × (options.dry ≡ false → RunsArguments names_at
    (arguments_at dir (record { before = before; new = asked.new }) options) old new out told inner after between)
    → RunsRequestedScripts file_at names_at asked old new out first status after tells
runs_asked file_at names_at asked before dir options inner status old new out first told between after tells is same so
    ends silent (dry, runs) =
    asks_for file_at asked before dir options
    (λ arguments. (arguments.options.dry ≡ true → new ≡ old)
    × (arguments.options.dry ≡ false → (inner : ℕ) × (between : ReportList)
    × RunsArguments names_at arguments old new out first inner after between
    × IsStatusOf asked.file inner between status tells))
    is same so (
      dry,
      (λ wet. (
        inner,
        between,
        subst (λ t. RunsArguments names_at
            (arguments_at dir (record { before = before; new = asked.new }) options) old new out t
            inner after between) silent (runs wet),
        ends,
      )),
    )

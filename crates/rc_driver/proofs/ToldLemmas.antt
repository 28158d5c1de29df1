-- Lemmas on composing a run of scripts, in terms of its calls, from those of its scripts.
use Rattle.rc_driver.proofs.Words.{◌≡◌, refl, sym, ap, ◌∙◌, subst, inl, inr, ℕ, ◌+◌, ◌-◌, Bool, true, false, not, ◌||◌}
use Rattle.rc_driver.proofs.Words.{List, [], ◌∷◌, ◌++◌, Option, Result, Ok, Err, IfOk, IfErr, arith, Appends}
use Rattle.rc_driver.proofs.Words.{true≢false, AppendsPrefix, HostCall, NewCallsSatisfy, NewCallsSatisfy-map}
use Rattle.rc_driver.proofs.Words.{NewCallsSatisfy-none, NewCallsSatisfy-then}
use Rattle.rc_driver.proofs.Words.{RunEnd, RcAnswer, ScriptOptions, Advanced, EndsCommand, EndsEarly, HasRun, RunsTo}
use Rattle.rc_driver.proofs.Words.{count_pauses, Output, TellsStart, begin_line, command_text, done_end, is_over}
use Rattle.rc_driver.proofs.Words.{line_of, lines_of, output, LinkRun, RcState, is_failure, ScriptsEndAt, RanBy}
use Rattle.rc_driver.proofs.Words.{RunsFrom, RunsLinks, ReportList}
use Rattle.std.specs.Borrow.{Bor}
use Rattle.rc_driver.specs.declared.driving.RunEnd.TheVariants as run_end
use Rattle.rc_driver.specs.declared.runs.Arg.{Arg}
use Rattle.rc_driver.proofs.RunLemmas.{lines_told, stops_early}

-- the command that was run is the script's
pub run_by : (old new : Option (List HostCall)) (way : ScriptOptions) (dir link command text : List ℕ)
    (given : RcAnswer) (pauses still : ℕ) (told tells : ReportList) → command ≡ text
    → NewCallsSatisfy old new (HasRun way dir link command given pauses still told tells)
    → NewCallsSatisfy old new (HasRun way dir link text given pauses still told tells)
run_by old new way dir link command text given pauses still told tells same gone =
    subst (λ t. NewCallsSatisfy old new (HasRun way dir link t given pauses still told tells)) same gone

-- a run of a command that ends because the pauses are used up
pub ends_early : (old new : Option (List HostCall)) (way : ScriptOptions) (dir command : List ℕ) (pauses : ℕ)
    (link : Bor (List ℕ)) (given : Arg) (bytes : Option (List ℕ)) (told tells : ReportList)
    → NewCallsSatisfy old new (EndsEarly way dir link.now command pauses told tells)
    → NewCallsSatisfy old new
    (EndsCommand way dir command pauses (link.now, given) (output bytes told) (run_end.Limit link) (output bytes tells))
ends_early old new way dir command pauses link given bytes told tells early =
    NewCallsSatisfy-map old new (EndsEarly way dir link.now command pauses told tells)
    (EndsCommand way dir command pauses (link.now, given) (output bytes told) (run_end.Limit link) (output bytes tells))
    early
    (λ calls is. (refl, is, refl))

-- a script that ended within some pauses ended within at most that number
ran_by : (way : ScriptOptions) (dir command : List ℕ) (pauses still : ℕ) (s : LinkRun) (given : RcAnswer)
    (told tells : ReportList) (calls : List HostCall)
    → HasRun way dir s.0 command given pauses still told tells calls
    → RanBy way dir command pauses s given told tells calls
ran_by way dir command pauses still s given told tells calls (time, (ran, count), lines) =
    (time, ran, omega (arith, count), lines)

-- a run of a command that ends because its line was not written
pub ends_unwritten : (old new : Option (List HostCall)) (way : ScriptOptions) (dir command : List ℕ) (pauses still : ℕ)
    (s : LinkRun) (given : RcAnswer) (before after : Option (List ℕ)) (told tells : ReportList) (ended : RunEnd)
    → NewCallsSatisfy old new (HasRun way dir s.0 command given pauses still told tells)
    → (ended ≡ run_end.Write) × AppendsPrefix before after (line_of s given)
    → NewCallsSatisfy old new (EndsCommand way dir command pauses s (output before told) ended (output after tells))
ends_unwritten old new way dir command pauses still s given before after told tells ended gone (is, line) =
    NewCallsSatisfy-map old new (HasRun way dir s.0 command given pauses still told tells)
    (EndsCommand way dir command pauses s (output before told) ended (output after tells)) gone
    (λ calls was. subst (λ e. EndsCommand way dir command pauses s (output before told) e (output after tells) calls)
    (sym is)
    (given, ran_by way dir command pauses still s given told tells calls was, line))

-- a run that ends because the line for its script's start was not written
pub ends_unbegun : (record_told : Option (List HostCall)) (way : ScriptOptions) (dir : List ℕ) (pauses : ℕ)
    (s : LinkRun) (before after : Option (List ℕ)) (told : ReportList) (ended : RunEnd)
    → (ended ≡ run_end.Write) × (way.verbose ≡ true) × AppendsPrefix before after (begin_line s)
    → NewCallsSatisfy record_told record_told
    (ScriptsEndAt way dir pauses s (output before told) ended (output after told))
ends_unbegun record_told way dir pauses s before after told ended (is, verbose, line) =
    NewCallsSatisfy-none record_told (ScriptsEndAt way dir pauses s (output before told) ended (output after told))
    (subst (λ e. ScriptsEndAt way dir pauses s (output before told) e (output after told) []) (sym is)
    (inl (verbose, refl, line, refl)))

-- a run of a command, after the line for its script's start
ends_at : (way : ScriptOptions) (dir command : List ℕ) (pauses : ℕ) (s : LinkRun)
    (before mid after : Option (List ℕ)) (told tells : ReportList) (ended : RunEnd) (calls : List HostCall)
    → command ≡ command_text way dir s → TellsStart way s before mid
    → EndsCommand way dir command pauses s (output mid told) ended (output after tells) calls
    → ScriptsEndAt way dir pauses s (output before told) ended (output after tells) calls
ends_at way dir command pauses s before mid after told tells (run_end.Limit link) calls same begun
    (named, (now, time, waiting, ran, count, lines), stays) = (
      named,
      now,
      time,
      waiting,
      subst (λ text. RunsTo way.seconds text now time calls) same ran,
      count,
      lines,
      subst (λ b. TellsStart way s before b) (sym stays) begun,
    )
ends_at way dir command pauses s before mid after told tells run_end.Write calls same begun (given, ran, line) =
    inr (given, mid, subst (λ text. RanBy way dir text pauses s given told tells calls) same ran, begun, line)
ends_at way dir command pauses s before mid after told tells run_end.Memory calls same begun at = absurd at
ends_at way dir command pauses s before mid after told tells run_end.Done calls same begun at = absurd at
ends_at way dir command pauses s before mid after told tells run_end.Failed calls same begun at = absurd at
ends_at way dir command pauses s before mid after told tells run_end.Waiting calls same begun at = absurd at

pub ends_told : (old new : Option (List HostCall)) (way : ScriptOptions) (dir command : List ℕ) (pauses : ℕ)
    (s : LinkRun) (before mid after : Option (List ℕ)) (told tells : ReportList) (ended : RunEnd)
    → command ≡ command_text way dir s → TellsStart way s before mid
    → NewCallsSatisfy old new (EndsCommand way dir command pauses s (output mid told) ended (output after tells))
    → NewCallsSatisfy old new (ScriptsEndAt way dir pauses s (output before told) ended (output after tells))
ends_told old new way dir command pauses s before mid after told tells ended same begun ends =
    NewCallsSatisfy-map old new (EndsCommand way dir command pauses s (output mid told) ended (output after tells))
    (ScriptsEndAt way dir pauses s (output before told) ended (output after tells)) ends
    (λ calls at. ends_at way dir command pauses s before mid after told tells ended calls same begun at)

-- the same if a command was run with any result
pub started_lines : (ran : Result RcAnswer RunEnd) (way : ScriptOptions) (s : LinkRun)
    (before mid after : Option (List ℕ)) → TellsStart way s before mid
    → IfOk ran (λ given. Appends mid after (line_of s given))
    → IfOk ran (λ given. Appends before after (lines_of way s given))
started_lines (Ok given) way s before mid after begun line = lines_told way s given before mid after begun line
started_lines (Err ended) way s before mid after begun line = tt

pub started_ran : (ran : Result RcAnswer RunEnd) (old new : Option (List HostCall)) (way : ScriptOptions)
    (dir link command text : List ℕ) (pauses still : ℕ) (told tells : ReportList) → command ≡ text
    → IfOk ran (λ given. NewCallsSatisfy old new (HasRun way dir link command given pauses still told tells))
    → IfOk ran (λ given. NewCallsSatisfy old new (HasRun way dir link text given pauses still told tells))
started_ran (Ok given) old new way dir link command text pauses still told tells same gone =
    run_by old new way dir link command text given pauses still told tells same gone
started_ran (Err ended) old new way dir link command text pauses still told tells same gone = tt

pub started_ends : (ran : Result RcAnswer RunEnd) (old new : Option (List HostCall)) (way : ScriptOptions)
    (dir command : List ℕ) (pauses : ℕ) (s : LinkRun) (before mid after : Option (List ℕ)) (told tells : ReportList)
    → command ≡ command_text way dir s → TellsStart way s before mid
    → IfErr ran
    (λ ended. NewCallsSatisfy old new
    (EndsCommand way dir command pauses s (output mid told) ended (output after tells)))
    → IfErr ran
    (λ ended. NewCallsSatisfy old new (ScriptsEndAt way dir pauses s (output before told) ended (output after tells)))
started_ends (Ok given) old new way dir command pauses s before mid after told tells same begun ends = tt
started_ends (Err ended) old new way dir command pauses s before mid after told tells same begun ends =
    ends_told old new way dir command pauses s before mid after told tells ended same begun ends

-- a run that ends at its first script
pub runs_ends : (old new : Option (List HostCall)) (way : ScriptOptions) (dir : List ℕ) (pauses : ℕ) (failed : Bool)
    (rc now : RcState) (before after : Output) (ended : RunEnd) (s : LinkRun)
    → rc.waits ≡ false → rc.remaining ≡ s ∷ now.remaining → now.waits ≡ true
    → NewCallsSatisfy old new (ScriptsEndAt way dir pauses s before ended after)
    → NewCallsSatisfy old new (RunsLinks way dir pauses failed rc before ended now after)
runs_ends old new way dir pauses failed rc now before after ended s ready head waiting ends =
    NewCallsSatisfy-map old new (ScriptsEndAt way dir pauses s before ended after)
    (RunsLinks way dir pauses failed rc before ended now after) ends
    (λ calls at. record {
      waits = λ is. absurd (true≢false (sym is ∙ ready));
      runs = λ _. subst (λ remaining. RunsFrom way dir pauses failed remaining before ended now.remaining after calls)
          (sym head)
          (inl (at, refl));
      answered = λ _. waiting ∙ sym (ap not (stops_early way dir pauses s before ended after calls at));
    })

done_over : (failed : Bool) → is_over (done_end failed) ≡ true
done_over true = refl
done_over false = refl

-- a run of no further script
pub runs_done : (told : Option (List HostCall)) (way : ScriptOptions) (dir : List ℕ) (pauses : ℕ) (failed : Bool)
    (rc now : RcState) (bytes : Output) (ended : RunEnd)
    → (rc.waits ≡ false) × (rc.remaining ≡ []) × (now ≡ rc) → ended ≡ done_end failed
    → NewCallsSatisfy told told (RunsLinks way dir pauses failed rc bytes ended now bytes)
runs_done told way dir pauses failed rc now bytes ended (ready, none, same) is =
    NewCallsSatisfy-none told (RunsLinks way dir pauses failed rc bytes ended now bytes) (record {
      waits = λ waiting. absurd (true≢false (sym waiting ∙ ready));
      runs =
          λ _. subst (λ remaining. RunsFrom way dir pauses failed remaining bytes ended now.remaining bytes [])
          (sym none)
          (is, subst (λ (r : RcState). r.remaining ≡ []) (sym same) none, refl, refl);
      answered =
          λ _. subst (λ (r : RcState). r.waits ≡ false) (sym same) ready
          ∙ sym (ap not (ap is_over is ∙ done_over failed));
    })

-- a run in which an answer is missing runs nothing
pub runs_waiting : (told : Option (List HostCall)) (way : ScriptOptions) (dir : List ℕ) (pauses : ℕ) (failed : Bool)
    (rc now : RcState) (bytes : Output)
    → (rc.waits ≡ true) × (now ≡ rc)
    → NewCallsSatisfy told told (RunsLinks way dir pauses failed rc bytes run_end.Waiting now bytes)
runs_waiting told way dir pauses failed rc now bytes (waiting, same) =
    NewCallsSatisfy-none told (RunsLinks way dir pauses failed rc bytes run_end.Waiting now bytes) (record {
      waits = λ _. (refl, same, refl, refl);
      runs = λ ready. absurd (true≢false (sym waiting ∙ ready));
      answered = λ ready. absurd (true≢false (sym waiting ∙ ready));
    })

-- a script that was handed out, ran and was answered
pub advanced : (old new : Option (List HostCall)) (way : ScriptOptions) (dir : List ℕ) (pauses still : ℕ)
    (failed fails : Bool) (rc mid now : RcState) (before after : Output) (s : LinkRun) (given : RcAnswer)
    → rc.waits ≡ false → rc.remaining ≡ s ∷ mid.remaining → now ≡ record mid { waits = false }
    → fails ≡ (failed || is_failure given)
    → NewCallsSatisfy old new (HasRun way dir s.0 (command_text way dir s) given pauses still before.told after.told)
    → Appends before.lines after.lines (lines_of way s given)
    → NewCallsSatisfy old new (Advanced way dir pauses still failed fails rc before now after)
advanced old new way dir pauses still failed fails rc mid now before after s given ready head is failing gone line =
    NewCallsSatisfy-map old new (HasRun way dir s.0 (command_text way dir s) given pauses still before.told after.told)
    (Advanced way dir pauses still failed fails rc before now after) gone
    (λ calls was. subst (λ (r : RcState). Advanced way dir pauses still failed fails rc before r after calls) (sym is)
    (s, given, ready, head, refl, failing, was, line))

-- a script, and the run after it
pub runs_more : (old mid new : Option (List HostCall)) (way : ScriptOptions) (dir : List ℕ) (pauses still : ℕ)
    (failed fails : Bool) (rc now last : RcState) (before between after : Output) (ended : RunEnd)
    → NewCallsSatisfy old mid (Advanced way dir pauses still failed fails rc before now between)
    → NewCallsSatisfy mid new (RunsLinks way dir still fails now between ended last after)
    → NewCallsSatisfy old new (RunsLinks way dir pauses failed rc before ended last after)
runs_more old mid new way dir pauses still failed fails rc now last before between after ended first behind =
    NewCallsSatisfy-then old mid new (Advanced way dir pauses still failed fails rc before now between)
    (RunsLinks way dir still fails now between ended last after)
    (RunsLinks way dir pauses failed rc before ended last after) first behind together
  where
    together : (earlier later : List HostCall)
        → Advanced way dir pauses still failed fails rc before now between earlier
        → RunsLinks way dir still fails now between ended last after later
        → RunsLinks way dir pauses failed rc before ended last after (later ++ earlier)
    together earlier later (s, given, ready, head, answered, failing, (time, (ran, count), lines), line) runs = record {
      waits = λ is. absurd (true≢false (sym is ∙ ready));
      runs = λ _. subst
          (λ remaining. RunsFrom way dir pauses failed remaining before ended last.remaining after (later ++ earlier))
          (sym head)
          (inr (
            given,
            earlier,
            later,
            between,
            refl,
            (time, ran, omega (arith, count), lines),
            line,
            subst (λ f. RunsFrom way dir
                (pauses - count_pauses earlier) f now.remaining between ended last.remaining after later)
                failing
                (subst (λ n. RunsFrom way dir n fails now.remaining between ended last.remaining after later)
                (left_of count)
                (runs.runs answered)),
          ));
      answered = λ _. runs.answered answered;
    }
      where
        left_of : pauses ≡ count_pauses earlier + still → still ≡ pauses - count_pauses earlier
        left_of is = omega (arith, is)

-- What a run of scripts on a host has written, in terms of its calls.
use Rattle.rc_driver.proofs.Words.{◌≡◌, ◌∙◌, ℕ, suc, Bool, true, false, not, cond, ◌||◌, ◌-◌, inl, inr, List, [], ◌∷◌}
use Rattle.rc_driver.proofs.Words.{◌++◌, length, Option, refl, sym, ap, subst, Appends-nil, Appends-trans, true≢false}
use Rattle.rc_driver.proofs.Words.{Appends, AppendsPrefix, AppendsPrefix-first, AppendsPrefix-then, HostCall}
use Rattle.rc_driver.proofs.Words.{NewCallsSatisfy}
use Rattle.rc_driver.proofs.Words.{RunEnd, RcAnswer, ScriptOptions, count_pauses, Output, TellsStart, WritesEnds}
use Rattle.rc_driver.proofs.Words.{begin_line, done_end, is_over, line_of, lines_of, report, LinkRun, RcState}
use Rattle.rc_driver.proofs.Words.{is_failure, ScriptsEndAt, RunsFrom, RunsLinks}
use Rattle.std.specs.List.{list_any}
use Rattle.std.proofs.Math.Bool.{or-false, or_assoc}
use Rattle.rc_driver.specs.declared.driving.RunEnd.TheVariants as run_end
use Rattle.rc_driver.specs.declared.runs.RcAnswer.TheVariants as answer

-- the empty prefix of a text was written
pub AppendsPrefix-none : (old : Option (List ℕ)) (text : List ℕ) → AppendsPrefix old old text
AppendsPrefix-none old text = ([], text, refl, Appends-nil old)

-- the line for a script's start, if starts are written, and then its line
started_line : (verbose : Bool) (begin line : List ℕ) (before mid after : Option (List ℕ))
    → (verbose ≡ true → Appends before mid begin) × (verbose ≡ false → mid ≡ before) → Appends mid after line
    → Appends before after (cond verbose begin [] ++ line)
started_line true begin line before mid after told wrote = Appends-trans before mid after begin line (told.0 refl) wrote
started_line false begin line before mid after told wrote = subst (λ b. Appends b after line) (told.1 refl) wrote

started_part : (verbose : Bool) (begin line : List ℕ) (before mid after : Option (List ℕ))
    → (verbose ≡ true → Appends before mid begin) × (verbose ≡ false → mid ≡ before) → AppendsPrefix mid after line
    → AppendsPrefix before after (cond verbose begin [] ++ line)
started_part true begin line before mid after told wrote =
    AppendsPrefix-then before mid after begin line (told.0 refl) wrote
started_part false begin line before mid after told wrote = subst (λ b. AppendsPrefix b after line) (told.1 refl) wrote

unstarted_part : (verbose : Bool) (begin line : List ℕ) (before after : Option (List ℕ)) → verbose ≡ true
    → AppendsPrefix before after begin → AppendsPrefix before after (cond verbose begin [] ++ line)
unstarted_part true begin line before after is wrote = AppendsPrefix-first before after begin line wrote
unstarted_part false begin line before after is wrote = absurd (true≢false (sym is))

-- both lines of a script
pub lines_told : (way : ScriptOptions) (s : LinkRun) (given : RcAnswer) (before mid after : Option (List ℕ))
    → TellsStart way s before mid → Appends mid after (line_of s given) → Appends before after (lines_of way s given)
lines_told way s given before mid after told wrote =
    started_line way.verbose (begin_line s) (line_of s given) before mid after told wrote

-- a run that ends at a script has written a part of its lines
pub stops_part : (way : ScriptOptions) (dir : List ℕ) (pauses : ℕ) (s : LinkRun) (before : Output) (ended : RunEnd)
    (after : Output) (calls : List HostCall)
    → ScriptsEndAt way dir pauses s before ended after calls
    → (given : RcAnswer) × AppendsPrefix before.lines after.lines (lines_of way s given)
stops_part way dir pauses s before (run_end.Limit link) after calls
    (named, now, time, waiting, ran, count, told, begun) = (
      answer.NotStarted,
      started_part way.verbose (begin_line s) (line_of s answer.NotStarted) before.lines after.lines after.lines begun
          (AppendsPrefix-none after.lines (line_of s answer.NotStarted)),
    )
stops_part way dir pauses s before run_end.Write after calls (inl (verbose, none, wrote, stays)) = (
  answer.NotStarted,
  unstarted_part way.verbose (begin_line s) (line_of s answer.NotStarted) before.lines after.lines verbose wrote,
)
stops_part way dir pauses s before run_end.Write after calls (inr (given, mid, ran, begun, wrote)) =
    (given, started_part way.verbose (begin_line s) (line_of s given) before.lines mid after.lines begun wrote)
stops_part way dir pauses s before run_end.Memory after calls (none, same) = (
  answer.NotStarted,
  subst (λ (b : Output). AppendsPrefix before.lines b.lines (lines_of way s answer.NotStarted)) (sym same)
      (AppendsPrefix-none before.lines (lines_of way s answer.NotStarted)),
)
stops_part way dir pauses s before run_end.Done after calls at = absurd at
stops_part way dir pauses s before run_end.Failed after calls at = absurd at
stops_part way dir pauses s before run_end.Waiting after calls at = absurd at

-- such a run is not over
pub stops_early : (way : ScriptOptions) (dir : List ℕ) (pauses : ℕ) (s : LinkRun) (before : Output) (ended : RunEnd)
    (after : Output) (calls : List HostCall)
    → ScriptsEndAt way dir pauses s before ended after calls → is_over ended ≡ false
stops_early way dir pauses s before (run_end.Limit link) after calls at = refl
stops_early way dir pauses s before run_end.Write after calls at = refl
stops_early way dir pauses s before run_end.Memory after calls at = refl
stops_early way dir pauses s before run_end.Done after calls at = absurd at
stops_early way dir pauses s before run_end.Failed after calls at = absurd at
stops_early way dir pauses s before run_end.Waiting after calls at = absurd at

-- what the scripts that were run from here have written
record Wrote (way : ScriptOptions) (failed : Bool) (scripts : List LinkRun) (before : Option (List ℕ)) (ended : RunEnd)
    (remaining : List LinkRun)
    (after : Option (List ℕ)) : Type 0 where
  answers : List RcAnswer
  part : AppendsPrefix before after (report way scripts answers)
  whole : is_over ended ≡ true →
      (ended ≡ done_end (failed || list_any is_failure answers)) × (length answers ≡ length scripts)
      × Appends before after (report way scripts answers) × (remaining ≡ [])

wrote : (way : ScriptOptions) (dir : List ℕ) (pauses : ℕ) (failed : Bool) (scripts : List LinkRun) (before : Output)
    (ended : RunEnd) (remaining : List LinkRun) (after : Output) (calls : List HostCall)
    → RunsFrom way dir pauses failed scripts before ended remaining after calls
    → Wrote way failed scripts before.lines ended remaining after.lines
wrote way dir pauses failed [] before ended remaining after calls (is, none, same, no_calls) = record {
  answers = [];
  part = subst (λ (b : Output). AppendsPrefix before.lines b.lines []) (sym same) (AppendsPrefix-none before.lines []);
  whole = λ over. (
    is ∙ ap done_end (sym (or-false failed)),
    refl,
    subst (λ (b : Output). Appends before.lines b.lines []) (sym same) (Appends-nil before.lines),
    none,
  );
}
wrote way dir pauses failed (s ∷ scripts) before ended remaining after calls (inl (at, behind)) =
    let stop = stops_part way dir pauses s before ended after calls at in
    let early = stops_early way dir pauses s before ended after calls at in
    record {
      answers = stop.0 ∷ [];
      part = AppendsPrefix-first before.lines after.lines (lines_of way s stop.0) (report way scripts []) stop.1;
      whole = λ over. absurd (true≢false (sym over ∙ early));
    }
wrote way dir pauses failed (s ∷ scripts) before ended remaining after calls
    (inr (given, first, later, between, is, ran, line, rest)) =
    let behind = wrote way dir (pauses - count_pauses first)
    (failed || is_failure given) scripts between ended remaining after later rest in
    record {
      answers = given ∷ behind.answers;
      part = AppendsPrefix-then before.lines between.lines after.lines (lines_of way s given)
          (report way scripts behind.answers) line behind.part;
      whole = λ over. let all = behind.whole over in (
        all.0 ∙ ap done_end (or_assoc failed (is_failure given) (list_any is_failure behind.answers)),
        ap suc all.1,
        Appends-trans before.lines between.lines after.lines (lines_of way s given)
            (report way scripts behind.answers) line all.2,
        all.3,
      );
    }

-- what a run has written
pub writes_ends : (old new : Option (List HostCall)) (way : ScriptOptions) (dir : List ℕ) (pauses : ℕ)
    (rc now : RcState) (before after : Output) (ended : RunEnd)
    → NewCallsSatisfy old new (RunsLinks way dir pauses false rc before ended now after)
    → WritesEnds way rc before.lines ended now after.lines
writes_ends old new way dir pauses rc now before after ended (calls, told, runs) = by rc.waits refl
  where
    by : (waits : Bool) → rc.waits ≡ waits → WritesEnds way rc before.lines ended now after.lines
    by true is = let same = runs.waits is in record {
      answers = [];
      part = subst (λ (b : Output). AppendsPrefix before.lines b.lines (report way rc.remaining [])) (sym same.2)
          (AppendsPrefix-none before.lines (report way rc.remaining []));
      whole = λ over. absurd (true≢false (sym over ∙ ap is_over same.0));
      waits = λ early. subst (λ (r : RcState). r.waits ≡ true) (sym same.1) is;
    }
    by false is =
        let went = wrote way dir pauses false rc.remaining before ended now.remaining after calls (runs.runs is) in
        record {
          answers = went.answers;
          part = went.part;
          whole = λ over. let all = went.whole over in (all.0, all.1, all.2, all.3, runs.answered is ∙ ap not over);
          waits = λ early. runs.answered is ∙ ap not early;
        }

-- The answers about a trace and files, and the cases in which nothing is written.
use Rattle.initview_command.proofs.Words.{◌≡◌, ◌∙◌, Bool, true, false, ap, inl, inr, refl, subst, ℕ, List}
use Rattle.initview_command.proofs.Words.{reverse, Option, Ok, Err, KnownOutput, front_none, DONE, REFUSED}
use Rattle.initview_command.proofs.Words.{DEVICE_FAULT}
use Rattle.initview_command.proofs.Words.{arith, IsTextAt, KnownTexts, Event, ViewState, Viewed, ViewEnd, Line, Answer}
use Rattle.initview_command.proofs.Words.{Gives, Shows, Writes, is_within, unless_within, FailsWith, fault_status}
use Rattle.initview_command.proofs.Words.{IsWriterAt, KnownWriters, Writer, PathTexts, NamedText, AreFiles, AnswersOf}
use Rattle.initview_command.proofs.Words.{Answers, IsRefused, ShowsWith, ShowsWithFiles}
use Rattle.initview_command.specs.declared.asking.TableQuestion.{TableQuestion}
use Rattle.inittab_text.specs.declared.faults.TableFault.{TableFault}
use Rattle.inittab_text.specs.declared.faults.TableFault.TheVariants as fault
use Rattle.trace_view.specs.SeenTexts.{IsSeen}

-- if memory ran out, nothing was written
pub none_written : (lines : List Line) (ends status : ℕ) (now : KnownOutput) → status ≡ DEVICE_FAULT
    → Writes lines ends status now now
none_written lines ends status now is = inr (inl is, front_none now lines)

-- exit status 4 is not 0
pub not_done : (X : Type 0) (status : ℕ) → status ≡ DEVICE_FAULT → status ≡ DONE → X
not_done X status failed done = absurd (omega (arith, failed, done))

-- equal lines and an equal status make an equal answer
pub gives_as : (lines : List Line) (status : ℕ) (given : List Line × ℕ) → lines ≡ given.0 → status ≡ given.1
    → ◌≡◌ {A = Answer} (Ok (lines, status)) (Ok given)
gives_as lines status given same is = ap (λ l. Ok (l, status)) same ∙ ap (λ s. Ok (given.0, s)) is

-- a text that begins in the middle of a run is rejected, and any other is answered
pub refused : (within : Bool) (given : List Line × ℕ) → within ≡ true → Err REFUSED ≡ unless_within within given
refused true given is = refl
refused false given is = absurd (cc)

pub answered : (within : Bool) (answer : Answer) (given : List Line × ℕ) → within ≡ false → answer ≡ Ok given
    → answer ≡ unless_within within given
answered true answer given is so = absurd (cc)
answered false answer given is so = so

-- the answer for a text that was taken
pub shows : {S : Type 0} (has : S → List Event → Type 0) (text_at : KnownTexts) (writers : KnownWriters)
    (path text : List ℕ) (gives : Gives) (view : ViewState) (seen : S) (writer : Writer) (stop : Option ViewEnd)
    (unfinished : Option ℕ) (answer : Answer)
    → IsTextAt text_at path text → IsWriterAt writers path writer → IsSeen has text stop unfinished view seen
    → ((past : List Event) → Viewed view past → has seen past
    → answer ≡ unless_within (is_within stop) (gives writer stop past))
    → Shows text_at writers path gives answer
shows has text_at writers path text gives view seen writer stop unfinished answer at by is of =
    inl (text, writer, stop, unfinished, is.0, at, by, is.1, is.2.judged.lawful, of (reverse is.0) is.2 is.3)

-- the same with files: there is an answer, the files are rejected, or memory runs out
module _ (text_at : KnownTexts) (writers : KnownWriters) (paths : PathTexts) (gives : List NamedText → Gives)
    (AreRefused : List NamedText → Type 0) (answer : Answer) where
  module _ (read files : List NamedText) (are : AreFiles text_at paths read) (same : files ≡ read) where
    with_files : ShowsWith text_at writers paths files gives AreRefused answer
        → ShowsWithFiles text_at writers paths gives AreRefused answer
    with_files shown =
        inl (read, are, subst (λ fs. ShowsWith text_at writers paths fs gives AreRefused answer) same shown)

    pub shown_with : (given : Gives) → given ≡ gives files → Shows text_at writers paths.path given answer
        → ShowsWithFiles text_at writers paths gives AreRefused answer
    shown_with given so shown = with_files (inl (subst (λ gs. Shows text_at writers paths.path gs answer) so shown))

    pub no_table : (why : TableFault) → answer ≡ Err (fault_status why) → FailsWith (AreRefused files) why
        → ShowsWithFiles text_at writers paths gives AreRefused answer
    no_table fault.Memory is fails = inr is
    no_table fault.TooLong is fails = with_files (inr (is, fails))
    no_table fault.Parts is fails = with_files (inr (is, fails))

-- the same for files alone
module _ (text_at : KnownTexts) (paths : PathTexts) (asked : TableQuestion) (answer : Answer)
    (read parts : List NamedText) (are : AreFiles text_at paths read) (same : parts ≡ read) where
  pub answers : AnswersOf asked parts answer → Answers text_at paths asked answer
  answers of = inl (read, are, subst (λ ps. AnswersOf asked ps answer) same of)

  pub no_answer : (why : TableFault) → answer ≡ Err (fault_status why) → FailsWith (IsRefused asked parts) why
      → Answers text_at paths asked answer
  no_answer fault.Memory is fails = inr is
  no_answer fault.TooLong is fails = answers (inr (is, fails))
  no_answer fault.Parts is fails = answers (inr (is, fails))

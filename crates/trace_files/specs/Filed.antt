-- The happenings that a log has written to files, as shown by the bytes in the files and the bytes that the log keeps.
use Rattle.std.specs.Prelude.{◌≡◌, ◌⊎◌, ℕ, Bool, true, false, IsTrue, List, [], ◌++◌, Option, Some, None}
use Rattle.std.specs.List.{list_all}
use Rattle.std.specs.Io.KnownBytes.{Appends, Keeps, append_known}
use Rattle.trace_events.specs.Event.{Event}
use Rattle.trace_events.specs.Range.{are_in_range}
use Rattle.trace_text.specs.Lines.{event_text, trace_text}
use Rattle.trace_log.specs.Logs.{LogState}
use Rattle.supervisor.specs.Crashes.{is_of_idle_look}

-- a log that writes to files: the files, the bytes that it still has to write, whether the last write failed, and
-- whether the log has failed
pub record Filed (S : Type 0) : Type 0 where
  pub files : S
  pub unwritten : List ℕ
  pub refused : Bool
  pub failed : Bool

-- The files have the whole trace except its last happenings. These belong to looks that found nothing, and the log
-- keeps their text.
pub record LacksLooks (trace : List Event) (bytes unwritten : List ℕ) : Type 0 where
  pub written : List Event
  pub held : List Event
  pub all : written ++ held ≡ trace
  pub of_files : trace_text written ≡ bytes
  pub of_unwritten : trace_text held ≡ unwritten
  pub idle : IsTrue (list_all is_of_idle_look held)

-- The bytes of the files, followed by those that the log keeps, are the text of the trace, whose numbers are in range.
-- Unless a write failed, only looks that found nothing are missing from the files.
pub record HasText (refused : Bool) (trace : List Event) (bytes unwritten : List ℕ) : Type 0 where
  pub ranged : are_in_range trace ≡ true
  pub whole : bytes ++ unwritten ≡ trace_text trace
  pub lacks : refused ≡ false → LacksLooks trace bytes unwritten

-- the bytes of the files are known, and satisfy `HasText`
abbrev pub KnowsText : Bool → List Event → Option (List ℕ) → List ℕ → Type 0
KnowsText refused trace None unwritten = ⊥
KnowsText refused trace (Some bytes) unwritten = HasText refused trace bytes unwritten

-- the state of the log as contracts see it: it has taken the happenings in its files and in the text that it keeps
abbrev pub filed_state : {S : Type 0} → (S → Option (List ℕ)) → Filed S → LogState
filed_state contents log = record {
  taken = λ trace. KnowsText log.refused trace (contents log.files) log.unwritten;
  failed = log.failed;
  noted = None;
}

-- the files have the whole text of the trace, or a prefix of it
abbrev pub EndsText : Bool → List Event → List ℕ → Type 0
EndsText true trace bytes = bytes ≡ trace_text trace
EndsText false trace bytes = (rest : List ℕ) × (bytes ++ rest ≡ trace_text trace)

-- the bytes of the files are known and satisfy `EndsText`, and the numbers in the trace are in range
abbrev pub KnowsEnd : Bool → List Event → Option (List ℕ) → Type 0
KnowsEnd whole trace None = ⊥
KnowsEnd whole trace (Some bytes) = (are_in_range trace ≡ true) × EndsText whole trace bytes

-- the bytes of the files, followed by those that the log keeps
abbrev pub all_bytes : {S : Type 0} → (S → Option (List ℕ)) → Filed S → Option (List ℕ)
all_bytes contents log = append_known (contents log.files) log.unwritten

-- No byte of the log is lost, repeated or changed, but bytes that the log kept may have been written to the files.
-- Unless a write failed, all of them have been.
pub record Flushes {S : Type 0} (contents : S → Option (List ℕ)) (old new : Filed S) : Type 0 where
  pub all : Keeps (all_bytes contents old) (all_bytes contents new)
  pub empties : new.refused ≡ false → new.unwritten ≡ []
  pub failed : new.failed ≡ old.failed

-- the bytes that the log keeps and the bytes of the files are unchanged
pub record FilesUnchanged {S : Type 0} (contents : S → Option (List ℕ)) (old new : Filed S) : Type 0 where
  pub files : Keeps (contents old.files) (contents new.files)
  pub unwritten : new.unwritten ≡ old.unwritten
  pub refused : new.refused ≡ old.refused
  pub failed : new.failed ≡ old.failed

-- the log keeps the text of a look that found nothing, and the bytes of the files are unchanged
pub record HoldsLook {S : Type 0} (contents : S → Option (List ℕ)) (old new : Filed S) (happening : Event)
    : Type 0 where
  pub files : Keeps (contents old.files) (contents new.files)
  pub idle : IsTrue (is_of_idle_look happening)
  pub unwritten : new.unwritten ≡ old.unwritten ++ event_text happening
  pub refused : new.refused ≡ old.refused

-- the log has written bytes that it kept to the files, or nothing has changed
abbrev pub MayFlush : {S : Type 0} → (S → Option (List ℕ)) → Filed S → Filed S → Type 0
MayFlush contents old new = Flushes contents old new ⊎ FilesUnchanged contents old new

-- The log has added the text of a happening at the end. Unless a write failed, the log keeps the text if the happening
-- belongs to a look that found nothing, and otherwise has written all bytes to the files.
pub record AddsHappening {S : Type 0} (contents : S → Option (List ℕ)) (old new : Filed S) (happening : Event) : Type 0
  where
    pub all : Appends (all_bytes contents old) (all_bytes contents new) (event_text happening)
    pub held : new.refused ≡ false → (new.unwritten ≡ []) ⊎ HoldsLook contents old new happening
    pub failed : new.failed ≡ old.failed

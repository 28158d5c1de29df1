-- The state of a log that notes and judges the happenings that it passes on to another log.
use Rattle.std.specs.Prelude.{reverse}
use Rattle.trace_check.specs.Judging.{Judging}
use Rattle.trace_log.specs.Logs.{LogState}
use Rattle.trace_log_wrappers.specs.declared.judgements.Judgement.{Judgement}
use Rattle.trace_log_wrappers.specs.Judgements.{JudgedSoFar}
use Rattle.trace_log_wrappers.specs.Notes.{Notes, AreNotesOf}

-- the other log, the notes on the happenings that it took, the judge, and the judge's verdict
pub record Watched (L : Type 0) : Type 0 where
  pub log : L
  pub notes : Notes
  pub judge : Judging
  pub judgement : Judgement

-- the log has taken the same happenings as the other log, and its notes and its verdict are about these happenings
abbrev pub watched_state : {L : Type 0} → (L → LogState) → Watched L → LogState
watched_state state watched = record {
  taken = λ trace. AreNotesOf watched.notes (reverse trace)
      × JudgedSoFar watched.judge watched.judgement (reverse trace)
      × (state watched.log).taken trace;
  failed = (state watched.log).failed;
  noted = watched.notes.wanted;
}

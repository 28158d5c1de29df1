use Rattle.initview_command.proofs.Words.{answer_value}
use Rattle.initview_command.proofs.command.run_asked.Goals as goal

pub returns-in-Show : goal.returns-in-Show
returns-in-Show g c =
    rw c.in-Show.is (answer_value c.trace_answer-answer.result, c.trace_answer-answer.ensures, c.write.ensures)

pub returns-in-Draw : goal.returns-in-Draw
returns-in-Draw g c =
    rw c.in-Draw.is
    (answer_value c.trace_answer-answer-in-Draw.result, c.trace_answer-answer-in-Draw.ensures, c.write-in-Draw.ensures)

pub returns-in-Explain : goal.returns-in-Explain
returns-in-Explain g c =
    rw c.in-Explain.is
    (answer_value c.why_answer-answer.result, c.why_answer-answer.ensures, c.write-in-Explain.ensures)

pub returns-in-Reload : goal.returns-in-Reload
returns-in-Reload g c =
    rw c.in-Reload.is
    (answer_value c.reload_answer-answer.result, c.reload_answer-answer.ensures, c.write-in-Reload.ensures)

pub returns-in-Timing : goal.returns-in-Timing
returns-in-Timing g c =
    rw c.in-Timing.is
    (answer_value c.timing_answer-answer.result, c.timing_answer-answer.ensures, c.write-in-Timing.ensures)

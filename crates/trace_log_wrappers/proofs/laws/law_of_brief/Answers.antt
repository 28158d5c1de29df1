-- Each clause of `law_of_brief` is one of the lemmas on brief forms.
use Rattle.trace_log_wrappers.proofs.BriefWords.{lawful_unbroken, brief_of}
use Rattle.trace_log_wrappers.proofs.Alike.{same_unreaped}
use Rattle.trace_log_wrappers.proofs.SameDues.{has_known, stop_same, held_same, full_same}
use Rattle.trace_log_wrappers.proofs.Briefly.{brief_said, brief_stands, brief_lawful}
use Rattle.trace_log_wrappers.proofs.Short.{is_brief, brief_twice}
use Rattle.trace_log_wrappers.proofs.Judged.{brief_judged, breach_same, sound_frees}
use Rattle.trace_log_wrappers.proofs.laws.law_of_brief.Goals as goal

pub returns-clause-free : goal.returns-clause-free
returns-clause-free c = sound_frees

pub returns-clause-judged : goal.returns-clause-judged
returns-clause-judged c = brief_judged

pub returns-clause-breach : goal.returns-clause-breach
returns-clause-breach c = breach_same

pub returns-clause-short : goal.returns-clause-short
returns-clause-short c = is_brief

pub returns-clause-twice : goal.returns-clause-twice
returns-clause-twice c = brief_twice

pub returns-clause-lasting : goal.returns-clause-lasting
returns-clause-lasting c = brief_said

pub returns-clause-sound : goal.returns-clause-sound
returns-clause-sound c goal trace h = (brief_stands goal trace h).0

pub returns-clause-lawful : goal.returns-clause-lawful
returns-clause-lawful c = brief_lawful

pub returns-clause-unbroken : goal.returns-clause-unbroken
returns-clause-unbroken c goal trace h = lawful_unbroken (brief_of trace) (brief_lawful goal trace h)

pub returns-clause-time : goal.returns-clause-time
returns-clause-time c goal trace h = (brief_stands goal trace h).1.time

pub returns-clause-unreaped : goal.returns-clause-unreaped
returns-clause-unreaped c goal trace h = same_unreaped trace (brief_of trace) (brief_said trace)

pub returns-clause-orders : goal.returns-clause-orders
returns-clause-orders c goal trace h = (brief_stands goal trace h).1.listed

pub returns-clause-known : goal.returns-clause-known
returns-clause-known c id goal trace h = has_known trace (brief_of trace) (brief_stands goal trace h).1 id

pub returns-clause-stops : goal.returns-clause-stops
returns-clause-stops c child goal trace h = stop_same trace (brief_of trace) (brief_stands goal trace h).1 child

pub returns-clause-held : goal.returns-clause-held
returns-clause-held c id goal trace h = held_same trace (brief_of trace) (brief_stands goal trace h).1 id

pub returns-clause-full : goal.returns-clause-full
returns-clause-full c id goal trace h = full_same trace (brief_of trace) (brief_stands goal trace h).1 id

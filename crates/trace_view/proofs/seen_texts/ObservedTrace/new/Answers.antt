use Rattle.trace_view.proofs.Words.{[]}
use Rattle.trace_view.proofs.seen_texts.ObservedTrace.new.Goals as goal

pub returns : goal.returns
returns g c = ([], c.new.ensures, c.new-2.ensures)

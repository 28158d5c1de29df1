use Rattle.trace_text.proofs.CommonWords.{sym, pieces_of-cut, pieces_of-whole}
use Rattle.trace_text.proofs.words.read_behind_two.Goals as goal

pub returns-in-Some : goal.returns-in-Some
returns-in-Some g c = rw (pieces_of-cut 32 c.args.rest.now c.in-Some.second.now c.in-Some.rest.now
    (sym c.in-Some.ensures)) c.read_behind_three.ensures

pub returns-in-None : goal.returns-in-None
returns-in-None g c = rw (pieces_of-whole 32 c.args.rest.now (sym c.in-None.ensures)) c.read_three.ensures

use Rattle.trace_text.proofs.CommonWords.{sym, pieces_of-cut, pieces_of-whole}
use Rattle.trace_text.proofs.LineWords.{five_at_most}
use Rattle.trace_text.proofs.words.read_behind_four.Goals as goal

pub returns-in-Some : goal.returns-in-Some
returns-in-Some g c = rw (pieces_of-cut 32 c.args.rest.now c.in-Some.field-0.0.now c.in-Some.field-0.1.now
    (sym c.in-Some.ensures)) (sym (five_at_most c.args.word.now c.args.first.now c.args.second.now c.args.third.now
    c.in-Some.field-0.0.now c.in-Some.field-0.1.now))

pub returns-in-None : goal.returns-in-None
returns-in-None g c = rw (pieces_of-whole 32 c.args.rest.now (sym c.in-None.ensures)) c.read_five.ensures

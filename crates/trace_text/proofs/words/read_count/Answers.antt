use Rattle.trace_text.proofs.CommonWords.{sym, pieces_of-cut, pieces_of-whole}
use Rattle.trace_text.proofs.LineWords.{two_at_most}
use Rattle.trace_text.proofs.words.read_count.Goals as goal

pub returns-in-Some : goal.returns-in-Some
returns-in-Some c = rw (pieces_of-cut 32 c.args.rest.now c.in-Some.field-0.0.now c.in-Some.field-0.1.now
    (sym c.in-Some.ensures)) (sym (two_at_most c.args.word.now c.in-Some.field-0.0.now c.in-Some.field-0.1.now))

pub returns-in-None : goal.returns-in-None
returns-in-None c = rw (pieces_of-whole 32 c.args.rest.now (sym c.in-None.ensures)) c.count_of.ensures

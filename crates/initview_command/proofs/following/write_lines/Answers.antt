use Rattle.initview_command.proofs.Words.{rules, subst, ◌≡◌, sym, ◌∙◌, ◌+◌, ◌*◌, ◌<◌, ◌≤◌, ℕ, List, ◌++◌}
use Rattle.initview_command.proofs.Words.{take, length, length-append, arith, Consumes, Consumes-trans, common_steps}
use Rattle.initview_command.proofs.Words.{length-take, PIECE_LIMIT, PIECES_LIMIT, on_err, there_limit}
use Rattle.initview_command.proofs.Followed.{all_read, all_stopped, begins, part_of, written_part}
use Rattle.initview_command.proofs.following.write_lines.Goals as goal

pub returns-in_err-taken-clause-err : goal.returns-in_err-taken-clause-err
returns-in_err-taken-clause-err g c =
    on_err c.from_residual.result _ (λ start input has.
    let (text, consumed, small, written) = c.loop.invariant start input has in
    let few : c.loop.counter < PIECES_LIMIT = c.loop-test.true in
    written_part start input c.loop.reader text (g.S.LineSink.said c.loop.out) (omega (arith, small, few))
    (begins _ _ text consumed) written)

pub returns-in_err-write_piece-clause-err : goal.returns-in_err-write_piece-clause-err
returns-in_err-write_piece-clause-err g c =
    on_err c.from_residual-in_err-write_piece.result _ (λ start input has.
    let (text, consumed, small, written) = c.loop.invariant start input has in
    let piece : List ℕ = take c.in_ok-taken.taken c.read.new.buf in
    let few : c.loop.counter < PIECES_LIMIT = c.loop-test.true in
    let short : length piece ≤ PIECE_LIMIT = grind (arith, common_steps, length-take) in
    let bound : length (text ++ piece) ≤ there_limit + PIECE_LIMIT * (c.loop.counter + 1) =
    omega (arith, length-append text piece, small, short) in
    let joined = Consumes-trans _ _ _ _ _ consumed c.in_ok-taken.ensures.bytes.0 in
    part_of start _ _ (text ++ piece) (g.S.LineSink.said c.write_piece.new.out) joined
    (c.in_err-write_piece.ensures.err start text (omega (arith, bound, few)) written))

pub returns-then-is_some-clause-ok : goal.returns-then-is_some-clause-ok
returns-then-is_some-clause-ok g c = λ start input has.
    let (text, consumed, small, written) = c.loop.invariant start input has in
    let few : c.loop.counter < PIECES_LIMIT = c.loop-test.true in
    all_stopped start input _ c.end_of-end.result.0 c.end_of-end.result.1 c.loop.reader text
    (g.S.LineSink.said c.loop.out)
    consumed (omega (arith, small, few)) c.end_of-end.ensures written (sym c.is_some.ensures ∙ c.if-is_some.true)

pub loop-preserved : goal.loop-preserved
loop-preserved g c = λ start input has.
    let (text, consumed, small, written) = c.loop.invariant start input has in
    let piece : List ℕ = take c.in_ok-taken.taken c.read.new.buf in
    let few : c.loop.counter < PIECES_LIMIT = c.loop-test.true in
    let short : length piece ≤ PIECE_LIMIT = grind (arith, common_steps, length-take) in
    let bound : length (text ++ piece) ≤ there_limit + PIECE_LIMIT * (c.loop.counter + 1) =
    omega (arith, length-append text piece, small, short) in (
      text ++ piece,
      Consumes-trans _ _ _ _ _ consumed c.in_ok-taken.ensures.bytes.0,
      bound,
      c.in_ok-write_piece.ensures.ok start text (omega (arith, bound, few)) written,
    )

pub returns-clause-err : goal.returns-clause-err
returns-clause-err g c = λ start input has.
    let (text, consumed, small, written) = c.loop.invariant start input has in
    let few : c.loop.counter ≤ PIECES_LIMIT = c.loop.auto.counter-end in
    written_part start input c.loop.reader text (g.S.LineSink.said c.loop.out) (omega (arith, small, few))
    (begins _ _ text consumed) written

pub returns-then-taken-eq0-clause-ok : goal.returns-then-taken-eq0-clause-ok
returns-then-taken-eq0-clause-ok g c = λ start input has.
    let (text, consumed, small, written) = c.loop.invariant start input has in
    let few : c.loop.counter < PIECES_LIMIT = c.loop-test.true in
    let zero : c.in_ok-taken.taken ≡ 0 = first_of (search rules, grind (arith, common_steps)) in
    let room : 0 < length c.read.new.buf = first_of (search rules, grind (arith, common_steps)) in
    all_read start input _ c.end_of-end.result.0 c.end_of-end.result.1 c.loop.reader text (g.S.LineSink.said c.loop.out)
    consumed (omega (arith, small, few)) c.end_of-end.ensures written _
    (subst (λ n. Consumes (g.R.Read.remaining c.loop.from) (g.R.Read.remaining c.read.new.self) (take n c.read.new.buf))
    zero c.in_ok-taken.ensures.bytes.0) (c.in_ok-taken.ensures.bytes.1 zero room)

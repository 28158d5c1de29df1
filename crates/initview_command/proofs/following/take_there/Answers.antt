use Rattle.initview_command.proofs.Words.{rules, ◌≡◌, ◌+◌, ◌*◌, ◌<◌, ◌≤◌, ℕ, List, length, take, subst, arith, Consumes}
use Rattle.initview_command.proofs.Words.{common_steps, length-take, PIECE_LIMIT, PIECES_LIMIT, there_limit}
use Rattle.initview_command.proofs.Followed.{kept_last, kept_more, kept_none, kept_there}
use Rattle.initview_command.proofs.following.take_there.Goals as goal

pub loop-init : goal.loop-init
loop-init g c =
    λ input (text, hidden, consumed, few, is, has, kept). (text, hidden, consumed, omega (arith, few), is, has, kept)

pub returns-then-is_some : goal.returns-then-is_some
returns-then-is_some g c = λ input may.
    let few : c.loop.counter < PIECES_LIMIT = c.loop-test.true in
    let limit : ℕ = PIECE_LIMIT + PIECE_LIMIT * c.loop.counter in
    let last = c.in_ok-keep_last.ensures in
    kept_there limit c.args.count input _ c.loop.reader c.loop.lines.items last.0 c.keep_last.new.lines.items
    (omega (arith, few)) last.1 last.2 (c.loop.invariant input may)

pub returns-then-taken-eq0 : goal.returns-then-taken-eq0
returns-then-taken-eq0 g c = λ input may.
    let few : c.loop.counter < PIECES_LIMIT = c.loop-test.true in
    let zero : c.in_ok-taken.taken ≡ 0 = first_of (search rules, grind (arith, common_steps)) in
    let limit : ℕ = PIECE_LIMIT + PIECE_LIMIT * c.loop.counter in
    let last = c.in_ok-keep_last.ensures in
    kept_none there_limit c.args.count input _ _ c.loop.reader c.keep_last.new.lines.items
    (subst (λ n. Consumes (g.R.Read.remaining c.loop.from) (g.R.Read.remaining c.read_there.new.self)
    (take n c.read_there.new.buf)) zero c.in_ok-taken.ensures.bytes)
    (kept_there limit c.args.count input _ c.loop.reader c.loop.lines.items last.0 c.keep_last.new.lines.items
    (omega (arith, few)) last.1 last.2 (c.loop.invariant input may))

pub loop-preserved : goal.loop-preserved
loop-preserved g c = λ input may.
    let few : c.loop.counter < PIECES_LIMIT = c.loop-test.true in
    let piece : List ℕ = take c.in_ok-taken.taken c.read_there.new.buf in
    let short : length piece ≤ PIECE_LIMIT = grind (arith, common_steps, length-take) in
    let limit : ℕ = PIECE_LIMIT + PIECE_LIMIT * c.loop.counter in
    let last = c.in_ok-keep_last.ensures in
    let more = c.in_ok-add_piece.ensures.lines in
    let kept = kept_last limit c.args.count input _ c.loop.reader c.loop.lines.items last.0 c.keep_last.new.lines.items
    last.1 last.2 (c.loop.invariant input may) in
    let next = kept_more limit c.args.count input _ _ c.loop.reader c.add_piece.new.reader piece
    c.keep_last.new.lines.items more.0 c.add_piece.new.lines.items
    (omega (arith, few)) more.1 short c.in_ok-taken.ensures.bytes c.in_ok-add_piece.ensures.same more.2 kept in
    (next.0, next.1, next.2, omega (arith, next.3), next.4, next.5, next.6)

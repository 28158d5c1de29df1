use Rattle.initview_command.proofs.Words.{◌∙◌, ◌<◌, ◌≤◌, ap, sym, subst, ℕ, List, [], length, take, arith, common_steps}
use Rattle.initview_command.proofs.Words.{length-take, PIECE_LIMIT, HasLines, judges}
use Rattle.initview_command.proofs.Followed.{first_kept}
use Rattle.initview_command.proofs.following.first_reader.Goals as goal

pub returns : goal.returns
returns g c = λ count.
    let piece : List ℕ = take c.in_ok-taken.taken c.read.new.buf in
    let short : length piece ≤ PIECE_LIMIT = grind (arith, common_steps, length-take) in
    let some : 0 < length piece = grind (arith, common_steps, length-take) in
    let reader = c.deref_mut.ensures.value in
    first_kept count _ _ c.deref_mut.result.now c.take_piece.new.reader piece c.args.lines.now.items
    c.take_piece.new.lines.items c.requires some short c.in_ok-taken.ensures.bytes.0
    (ap judges reader ∙ c.in_ok-reader.ensures.0) c.in_ok-take_piece.ensures.same
    (subst (λ r. HasLines r [] []) (sym reader) c.in_ok-reader.ensures.1)
    c.in_ok-take_piece.ensures.lines

use Rattle.initctl_frame.proofs.Words.{◌≡◌, ◌∙◌, ℕ, ◌+◌, List, ◌++◌, length, take, drop, ap, sym, subst, arith}
use Rattle.initctl_frame.proofs.Words.{append_assoc, length-drop, take-add, take_rest, take_all, HeardRequest}
use Rattle.initctl_frame.proofs.Words.{ReaderAfter}
use Rattle.initctl_frame.proofs.Words.{requests_in_blocks, StoresRequests}
use Rattle.initctl_frame.proofs.pieces.read_piece.Goals as goal

-- the bytes read before and those taken now are the bytes up to the end of those taken now
next : (bytes piece : List ℕ) (done taken : ℕ)
    → (bytes ++ take done piece) ++ take taken (drop done piece) ≡ bytes ++ take (done + taken) piece
next bytes piece done taken =
    append_assoc bytes (take done piece) (take taken (drop done piece))
    ∙ ap (λ (xs : List ℕ). bytes ++ xs) (sym (take-add done taken piece))

pub loop-done-preserved : goal.loop-done-preserved
loop-done-preserved c =
    let piece = c.args.piece.now in
    let done = c.loop-done.done in
    let taken = c.feed-taken.result.0 in
    let held = c.loop-done.invariant in
    let stands = rw take_rest at c.feed-taken.ensures.stands in
    let got = rw take_rest at c.feed-taken.ensures.got in
    record {
      part = omega (arith, length-drop done piece, ap length (take_rest piece done));
      within = c.put-count.ensures.within;
      stands =
          λ bytes stood. subst (λ (xs : List ℕ). ReaderAfter c.feed-taken.new.self xs) (next bytes piece done taken)
          (stands (bytes ++ take done piece) (held.stands bytes stood));
      fills = λ bytes places stood filled. subst
          (λ (gots : List HeardRequest). StoresRequests places gots c.put-count.result c.put-count.new.room)
          (sym (got (bytes ++ take done piece) (held.stands bytes stood))
          ∙ ap requests_in_blocks (next bytes piece done taken))
          (c.put-count.ensures.fills places (requests_in_blocks (bytes ++ take done piece))
          (held.fills bytes places stood filled));
    }

pub returns-clause-stands : goal.returns-clause-stands
returns-clause-stands c = λ bytes stood.
    let end : c.loop-done.done ≡ length c.args.piece.now = omega arith in
    subst (λ (xs : List ℕ). ReaderAfter c.loop-done.blocks (bytes ++ xs))
    (take_all c.loop-done.done c.args.piece.now (omega arith)) (c.loop-done.invariant.stands bytes stood)

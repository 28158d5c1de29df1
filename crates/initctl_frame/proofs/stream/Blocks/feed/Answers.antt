use Rattle.initctl_frame.proofs.Words.{rules, arith, ◌≡◌, ◌∙◌, ap, sym, ◌+◌, ◌-◌, ◌<◌, ◌≤◌, ◌++◌, ℕ, [], ◌∷◌, length}
use Rattle.initctl_frame.proofs.Words.{take, lit≤, length-take-le, append-nil, HeardRequest, heard_of, PartialBlock}
use Rattle.initctl_frame.proofs.Words.{requests_in_blocks}
use Rattle.initctl_frame.proofs.Words.{remainder_of}
use Rattle.std.proofs.Common.{min}
use Rattle.initctl_frame.proofs.BlockLemmas.{count_feeds, front_joins, heard_of_front, gots_grow, gots_stay, over_feeds}
use Rattle.initctl_frame.proofs.stream.Blocks.feed.Goals as goal

pub returns-then-self-taken-lt-BLOCK-clause-stands :
    goal.returns-then-self-taken-lt-BLOCK-clause-stands
returns-then-self-taken-lt-BLOCK-clause-stands c = λ bytes stood.
    let taken = c.min-taken.result in
    let piece = c.args.piece.now in
    let front = c.self.inside.front.items in
    let within : taken ≤ length piece = omega arith in
    let count = ap (λ (b : PartialBlock). b.count) c.self.view_is ∙ stood.count in
    let short : length (remainder_of bytes) + taken < 384 = omega arith in
    let items : c.try_extend_from_slice.new.self.items ≡ front ++ take c.min-kept.result piece = search rules in
    let kept = c.min-kept.ensures ∙ ap (λ (k : ℕ). min taken (16 - k)) c.len.ensures.value in
    record {
      count = ap (λ (k : ℕ). k + taken) count ∙ sym (count_feeds bytes piece taken within short);
      front = items ∙ ap (λ (k : ℕ). front ++ take k piece) kept
          ∙ front_joins 16 taken (remainder_of bytes) piece front within
          (ap (λ (b : PartialBlock). b.front) c.self.view_is ∙ stood.front)
          ∙ ap (take 16) (sym (over_feeds bytes piece taken within short));
    }

pub returns-then-self-taken-lt-BLOCK-clause-got : goal.returns-then-self-taken-lt-BLOCK-clause-got
returns-then-self-taken-lt-BLOCK-clause-got c = λ bytes stood.
    let taken = c.min-taken.result in
    let count = ap (λ (b : PartialBlock). b.count) c.self.view_is ∙ stood.count in
    let size = length-take-le taken c.args.piece.now (omega arith) in
    gots_stay bytes (take taken c.args.piece.now) (omega arith) ∙ sym (append-nil (requests_in_blocks bytes))

pub returns-clause-got : goal.returns-clause-got
returns-clause-got c = λ bytes stood.
    let taken = c.min-taken.result in
    let piece = c.args.piece.now in
    let front = c.self.inside.front.items in
    let within : taken ≤ length piece = omega arith in
    let count = ap (λ (b : PartialBlock). b.count) c.self.view_is ∙ stood.count in
    let size = length-take-le taken piece within in
    let items : c.as_slice.result.now ≡ front ++ take c.min-kept.result piece = search rules in
    let kept = c.min-kept.ensures ∙ ap (λ (k : ℕ). min taken (16 - k)) c.len.ensures.value in
    let block = items ∙ ap (λ (k : ℕ). front ++ take k piece) kept
    ∙ front_joins 16 taken (remainder_of bytes) piece front within
    (ap (λ (b : PartialBlock). b.front) c.self.view_is ∙ stood.front) in
    gots_grow bytes (take taken piece) (omega arith)
    ∙ ap (λ (got : HeardRequest). requests_in_blocks bytes ++ got ∷ [])
    (sym
    (c.decode_front-got.ensures ∙ ap heard_of block
    ∙ heard_of_front 16 (remainder_of bytes ++ take taken piece) (lit≤ tt)))

use Rattle.rc_numbers.proofs.Words.{◌<◌, ◌+◌, ◌-◌, arith, length, get_or, drop, take, common_steps, Needs}
use Rattle.rc_numbers.proofs.StepLemmas.{AreSteps-met, need_at, rest_at}
use Rattle.rc_numbers.proofs.cycles.meet_all.Goals as goal

pub join_paths-requires : goal.join_paths-requires
join_paths-requires g c =
    let needs = c.args.needs.now in
    let first = c.partition_point-first.result in
    let i = c.loop-other.other-index in
    let within : first + i < length needs = grind (arith, common_steps) in
    let range = c.requires (first + i) within in
    rw (rest_at needs first i) (omega (arith, range.0, c.loop-other.invariant.size))

pub loop-other-preserved : goal.loop-other-preserved
loop-other-preserved g c =
    let needs = c.args.needs.now in
    let first = c.partition_point-first.result in
    let i = c.loop-other.other-index in
    let steps = c.loop-other.steps in
    let within : first + i < length needs = grind (arith, common_steps) in
    let range = c.requires (first + i) within in
    let at = get_or (take (length needs - first) (drop first needs)) i (0, 0) in
    let need : Needs needs at.0 at.1 = rw (rest_at needs first i) (need_at needs (first + i) (0, 0) within) in
    let here : at.0 < length steps = rw (rest_at needs first i) (omega (arith, range.0, c.loop-other.invariant.size)) in
    record {
      size = grind (arith, common_steps);
      steps = λ old. rw c.in_ok-join_paths.ensures.steps
          (AreSteps-met needs steps at.0 at.1 here need (c.loop-other.invariant.steps old));
    }

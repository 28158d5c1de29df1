use Rattle.simulator.proofs.Words.{rules, ◌≡◌, ◌≢◌, ◌++◌, ◌+◌, ◌<◌, ◌≤◌, [], true, length, ap, arith, common_steps}
use Rattle.simulator.proofs.Words.{nil_from_length, event_text, is_in_range, BeginsNone, lines_within, err_is}
use Rattle.std.proofs.Common.{Err}
use Rattle.simulator.specs.declared.running.SimFault.TheVariants as fault
use Rattle.simulator.proofs.Whole.{so_far_next, heard_ends, unread_ends, memory_ends, all_done}
use Rattle.simulator.proofs.running.hear_all.Goals as goal

pub returns-in_err-happening-clause-ended : goal.returns-in_err-happening-clause-ended
returns-in_err-happening-clause-ended g c =
    let is : c.from_residual.result ≡ Err fault.Memory = search rules in
    err_is c.from_residual.result fault.Memory _ is (λ s before so_far.
    memory_ends s c.loop-rest.rest.now c.loop-rest.number c.loop-rest.reads c.loop-rest.core c.loop-rest.side before
    (g.W.Write.contents c.loop-rest.out) (c.loop-rest.invariant.so_far s before so_far))

pub returns-in_default-clause-ended : goal.returns-in_default-clause-ended
returns-in_default-clause-ended g c = λ s before so_far.
    let filled : 0 < length c.loop-rest.rest.now = grind (arith, common_steps) in
    let some : c.loop-rest.rest.now ≢ [] = λ is. omega (arith, ap length is, filled) in
    let none : BeginsNone c.loop-rest.rest.now = search rules in
    unread_ends s c.loop-rest.rest.now c.loop-rest.number c.loop-rest.reads c.loop-rest.core c.loop-rest.side before
    (g.W.Write.contents c.loop-rest.out) (c.loop-rest.invariant.so_far s before so_far) some none

pub returns-in_err-reads-clause-ended : goal.returns-in_err-reads-clause-ended
returns-in_err-reads-clause-ended g c =
    let f = c.in_err-reads.field-0.0 in
    let is : c.from_residual-in_err-reads.result ≡ Err f = search (rules, c.from_residual-in_err-reads.ensures) in
    let found : (is_in_range c.in-Some.happening ≡ true)
    × (event_text c.in-Some.happening ++ c.in-Some.more.now ≡ c.loop-rest.rest.now) = search rules in
    err_is c.from_residual-in_err-reads.result f _ is (λ s before so_far.
    heard_ends s c.loop-rest.rest.now c.in-Some.more.now c.in-Some.happening c.loop-rest.number c.loop-rest.reads
    c.loop-rest.core c.loop-rest.side f before (g.W.Write.contents c.loop-rest.out)
    (g.W.Write.contents c.hear_next-heard.new.out)
    (c.loop-rest.invariant.so_far s before so_far) found.0 found.1 c.in_err-reads.ensures.err)

pub overflow_add-number : goal.overflow_add-number
overflow_add-number g c =
    let found : (is_in_range c.in-Some.happening ≡ true)
    × (event_text c.in-Some.happening ++ c.in-Some.more.now ≡ c.loop-rest.rest.now) = search rules in
    let lines = lines_within c.in-Some.happening c.in-Some.more.now c.loop-rest.rest.now found.0 found.1 in
    let bound : c.loop-rest.number + c.line_count-lines.result ≤ length c.args.text.now + 1 =
    rw c.line_count-lines.ensures (omega (arith, lines, c.loop-rest.invariant.bounded)) in
    grind (arith, common_steps)

pub loop-rest-preserved : goal.loop-rest-preserved
loop-rest-preserved g c =
    let found : (is_in_range c.in-Some.happening ≡ true)
    × (event_text c.in-Some.happening ++ c.in-Some.more.now ≡ c.loop-rest.rest.now) = search rules in
    let invariant = c.loop-rest.invariant in
    let (goal, past, at) = invariant.some in
    let (next, more, rests, hears, written) = c.in_ok-reads.ensures.ok goal past at in
    rw c.line_count-lines.ensures (record {
      texts = c.in_ok-reads.ensures.made;
      bounded = omega (
        arith,
        lines_within c.in-Some.happening c.in-Some.more.now c.loop-rest.rest.now found.0 found.1,
        invariant.bounded,
      );
      some = (goal, next, rests);
      so_far = λ s before so_far.
          so_far_next s c.loop-rest.rest.now c.in-Some.more.now c.in-Some.happening c.loop-rest.number c.loop-rest.reads
          c.in_ok-reads.reads c.loop-rest.core c.hear_next-heard.new.core c.loop-rest.side c.hear_next-heard.new.side
          before (g.W.Write.contents c.loop-rest.out) (g.W.Write.contents c.hear_next-heard.new.out)
          (invariant.so_far s before so_far) found.0 found.1 c.in_ok-reads.ensures.ok;
    })

pub returns-clause-done : goal.returns-clause-done
returns-clause-done g c = λ s before so_far.
    let empty : c.loop-rest.rest.now ≡ [] = nil_from_length c.loop-rest.rest.now (grind (arith, common_steps)) in
    all_done s c.loop-rest.rest.now c.loop-rest.number c.loop-rest.reads c.loop-rest.core c.loop-rest.side before
    (g.W.Write.contents c.loop-rest.out) (c.loop-rest.invariant.so_far s before so_far) empty

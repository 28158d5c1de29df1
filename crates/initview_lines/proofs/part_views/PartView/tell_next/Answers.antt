use Rattle.initview_lines.proofs.CommonWords.{rules, ◌≡◌, ◌+◌, ◌++◌, Some, BeginsNever, capped, ReadsNext, PartState}
use Rattle.initview_lines.proofs.Parts.{one_told, torn_told}
use Rattle.initview_lines.proofs.part_views.PartView.tell_next.Goals as goal

pub returns-in_ok-add_alone-in-Ok-Some-clause-goes : goal.returns-in_ok-add_alone-in-Ok-Some-clause-goes
returns-in_ok-add_alone-in-Ok-Some-clause-goes c =
    let old : PartState =
    record { reading = c.self.inside.reader; time = c.self.inside.time; stop = c.self.inside.stop } in
    let next : ReadsNext old.reading c.next.new.self (Some c.in-Ok-Some.happening) = search rules in
    rw (← c.self.view_is) (λ past_lines text small.
    one_told old c.next.new.self c.time_after-self-inside.result past_lines c.args.lines.now.items
    c.add_alone.new.lines.items
    text c.in-Ok-Some.happening c.in_default.is small next c.time_after-self-inside.ensures
    c.in_ok-add_alone-in-Ok-Some.ensures)

pub returns-in-Err-Line-clause-goes : goal.returns-in-Err-Line-clause-goes
returns-in-Err-Line-clause-goes c =
    let old : PartState =
    record { reading = c.self.inside.reader; time = c.self.inside.time; stop = c.self.inside.stop } in
    let none : (c.in-Err-Line.number ≡ capped (old.reading.lines + 1)) × BeginsNever old.reading.over = search rules in
    rw (← c.self.view_is) (λ past_lines text small.
    torn_told old (past_lines ++ c.args.lines.now.items) text c.in-Err-Line.number c.in_default.is small none.0 none.1)

use Rattle.initview_command.proofs.Words.{◌∙◌, ap, ◌++◌, level_asked, plan_by}
use Rattle.initview_lines.specs.Times.{times_in}
use Rattle.initview_command.proofs.planning.timed_plan.Goals as goal

pub returns : goal.returns
returns c = λ past marked.
    let table = c.args.table.now in
    c.in_ok-add_path_times.ensures
    ∙ ap (λ ls. ls ++ times_in c.level_asked.result table c.args.marks.now) c.in_ok-lines.ensures
    ∙ ap (λ l. plan_by c.args.level table ++ times_in l table c.args.marks.now) c.level_asked.ensures
    ∙ ap (λ m. plan_by c.args.level table ++ times_in (level_asked c.args.level table) table m) marked

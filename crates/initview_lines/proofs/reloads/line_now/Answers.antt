use Rattle.initview_lines.proofs.CommonWords.{◌∙◌, ap, option_copied, option_map, Entry, entry_of}
use Rattle.initview_lines.proofs.ReloadLemmas.{line_is}
use Rattle.initview_lines.proofs.reloads.line_now.Goals as goal

pub returns : goal.returns
returns c = λ past seen.
    line_is c.args.old.now past c.args.id.now c.act_in-act.result c.child.result c.child-2.result
    c.has_excluded.result c.idle_change-idle.result c.change_by-change.result c.table-2.result.now
    (option_copied c.get-2.result) (option_copied c.get-3.result) c.same_process-same.result
    (c.act_in-act.ensures ∙ ap (option_map (λ (e : Entry). e.act))
    (c.get.ensures.value ∙ ap (entry_of c.args.id.now) (c.table.ensures.value past seen)))
    (c.child.ensures past seen) (c.child-2.ensures past seen) (c.has_excluded.ensures past seen)
    (c.idle_change-idle.ensures past seen) c.get-2.ensures.value c.get-3.ensures.value
    (c.table-2.ensures.value past seen) c.same_process-same.ensures c.change_by-change.ensures

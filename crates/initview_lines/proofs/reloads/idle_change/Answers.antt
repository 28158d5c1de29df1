use Rattle.initview_lines.proofs.CommonWords.{◌≡◌, ◌∙◌, sym, ap, option_copied, Some, entry_of, table_of}
use Rattle.trace_view.proofs.Stands.{found_own}
use Rattle.initview_lines.proofs.ReloadLemmas.{idle_found}
use Rattle.initview_lines.proofs.reloads.idle_change.Goals as goal

pub returns-in-Some : goal.returns-in-Some
returns-in-Some c = λ past seen.
    let found : entry_of c.args.id.now (table_of past) ≡ Some c.in-Some.entry.now = ap (entry_of c.args.id.now)
    (sym (c.table.ensures.value past seen)) ∙ sym c.get.ensures.value ∙ ap option_copied c.in-Some.is in
    c.idle_entry.ensures past seen (found_own c.args.id.now (table_of past) c.in-Some.entry.now found)
    ∙ idle_found c.args.id.now past (Some c.in-Some.entry.now) found

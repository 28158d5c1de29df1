use Rattle.rc_links.proofs.Words.{◌∙◌, sym, ap, is_numbered}
use Rattle.rc_links.proofs.SetLemmas.{link-gained}
use Rattle.rc_links.proofs.kept.add_link.Goals as goal

pub returns-in_ok-insert : goal.returns-in_ok-insert
returns-in_ok-insert g c = λ letter name.
    let numbered = ap is_numbered (sym c.name-2.ensures) ∙ sym c.is_numbered.ensures ∙ c.if-is_numbered.true in
    let up = c.in_ok-insert.ensures.updates.0 (letter, record { ref_ptr = (0, 0); now = name }) in
    link-gained c.args.entry.now letter name _ _ numbered
    (rw (c.name.ensures, c.target_in.ensures, c.leads.ensures) at up)

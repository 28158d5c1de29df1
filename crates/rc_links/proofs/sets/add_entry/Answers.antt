use Rattle.rc_links.proofs.sets.add_entry.Goals as goal

pub returns : goal.returns
returns g c = λ e. rw (c.name.ensures, c.leads.ensures) at (c.in_ok-insert.ensures.updates.0
    (record { ref_ptr = (0, 0); now = e.name }, record { ref_ptr = (0, 0); now = e.leads }))

use Rattle.rc_links.proofs.sets.add_name.Goals as goal

pub returns : goal.returns
returns g c = λ name. c.in_ok-insert.ensures.updates.0 (record { ref_ptr = (0, 0); now = name })

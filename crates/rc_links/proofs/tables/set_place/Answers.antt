use Rattle.rc_links.proofs.tables.set_place.Goals as goal

pub returns : goal.returns
returns g c = λ bs. c.in_ok-insert.ensures.updates.0 (record { ref_ptr = (0, 0); now = bs })

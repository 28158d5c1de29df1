use Rattle.rc_links.proofs.planning.numbered.Goals as goal

pub ordered-requires : goal.ordered-requires
ordered-requires g c = rw c.as_slice.ensures.value c.in_ok-edges.ensures.range

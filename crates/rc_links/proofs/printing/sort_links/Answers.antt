use Rattle.rc_links.proofs.LinkLemmas.{sorted_texts}
use Rattle.rc_links.proofs.printing.sort_links.Goals as goal

pub returns : goal.returns
returns g c = sorted_texts (λ link. link.items) c.args.links.now.items c.sort_unstable.new.self.items
    c.sort_unstable.ensures.permutation c.sort_unstable.ensures.sorted

use Rattle.rc_driver.proofs.LinkWords.{◌∙◌, ap, dedup, bytes_eq, sorted_texts, texts_of}
use Rattle.std.proofs.lemmas.List.Filters.{dedup_is}
use Rattle.rc_driver.proofs.OrderLemmas.{map-dedup}
use Rattle.rc_driver.proofs.links.put_in_order.Goals as goal

pub returns : goal.returns
returns g c =
    ap texts_of (dedup_is _ c.sort_unstable.new.self.items c.dedup.new.self.items c.dedup.ensures.filtered)
    ∙ map-dedup (λ link. link.now) c.sort_unstable.new.self.items
    ∙ ap (dedup bytes_eq) (sorted_texts (λ link. link.now) c.args.links.now.items c.sort_unstable.new.self.items
    c.sort_unstable.ensures.permutation c.sort_unstable.ensures.sorted)

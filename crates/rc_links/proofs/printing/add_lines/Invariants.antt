use Rattle.rc_links.proofs.Words.{◌≡◌, ◌++◌, map, drop, link_line}
use Rattle.std.proofs.Common.{flat_map}
use Rattle.rc_links.proofs.printing.add_lines.Given as goal

-- the text so far, followed by the lines of the remaining links, is the whole text
abbrev pub invariant-loop-link : goal.invariant-loop-link
invariant-loop-link g l =
    l.text.items ++ flat_map (link_line l.level) (map (λ link. link.items) (drop l.link-index l.links))
    ≡ l.fn.text.items ++ flat_map (link_line l.level) (map (λ link. link.items) l.links)

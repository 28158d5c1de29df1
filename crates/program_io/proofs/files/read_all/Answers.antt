use Rattle.std.proofs.Common.{◌≡◌, sym, append-nil, rules}
use Rattle.std.proofs.KnownBytes.{Consumes-trans, Consumes-whole}
use Rattle.program_io.proofs.files.read_all.Goals as goal

pub returns-then-taken-eq0-clause-whole : goal.returns-then-taken-eq0-clause-whole
returns-then-taken-eq0-clause-whole g c =
    let joined = Consumes-trans _ _ _ _ _ c.loop.invariant c.in_ok-taken.ensures.bytes.0 in
    let ended = c.in_ok-taken.ensures.bytes.1 c.if-taken-eq0.true (search rules) in
    Consumes-whole _ _ _ (λ left. c.loop.bytes.items ≡ left) joined ended
    (rw c.if-taken-eq0.true (sym (append-nil c.loop.bytes.items)))

use Rattle.std.proofs.Common.{subst, sym}
use Rattle.std.specs.Str.{IsUtf8}
use Rattle.init_words.proofs.Spelled.{id_utf8}
use Rattle.init_words.proofs.ids.Id.as_str.Goals as goal

pub unreachable-requires : goal.unreachable-requires
unreachable-requires c = c.in-Err.ensures.cases.0
    (subst IsUtf8 (sym c.as_bytes.ensures.value) (id_utf8 c.args.self.now c.as_bytes.ensures.valid))

use Rattle.std.proofs.Common.{◌≡◌, drop}
use Rattle.program_io.specs.Known.{text_in}
use Rattle.program_io.proofs.kept_texts.KeptTexts.at.Given as goal

abbrev pub invariant-loop-kept : goal.invariant-loop-kept
invariant-loop-kept g l = text_in l.self l.path ≡ text_in (drop l.kept-index l.kept-items) l.path

use Rattle.std.proofs.Common.{◌≡◌, ◌∷◌, List}
use Rattle.init_words.specs.Parts.{NamedText}
use Rattle.host_files.proofs.folders.with_folder.Given as goal

abbrev pub invariant-loop-name : goal.invariant-loop-name
invariant-loop-name g l = (more : List NamedText) × (l.parts.items ≡ l.fn.main_part ∷ more)

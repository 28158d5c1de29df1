-- The action that an unknown word probably means.
use Rattle.std.specs.Prelude.{List, ℕ, codes, find, if◌then◌else◌, Option, Some}
use Rattle.std.specs.Str.{bytes_eq}
use Rattle.command_words.specs.Slips.{is_slip}
use Rattle.init_words.specs.declared.actions.Act.{Act}
use Rattle.init_words.specs.declared.actions.Act.TheVariants.{Respawn}
use Rattle.init_words.specs.Actions.{acts, word_of}

-- the first action whose name differs from the word by at most one typing error
abbrev pub similar : List ℕ → Option Act
similar word = find (λ action. is_slip word (word_of action)) acts

-- the action that a word probably means: respawn for BusyBox's askfirst, otherwise the first one with a similar name
abbrev pub meant : List ℕ → Option Act
meant word = if bytes_eq word (codes "askfirst") then Some Respawn else similar word

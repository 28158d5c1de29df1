-- The folder of a runlevel, as lists.
use Rattle.std.specs.Prelude.{List}
use Rattle.init_words.specs.declared.levels.Level.{Level}
use Rattle.rc_links.specs.EntryText.{EntryText}

-- the runlevel, the links that the plan puts in the folder, and the entries that the folder holds
pub record FolderText : Type 0 where
  pub level : Level
  pub planned : List EntryText
  pub held : List EntryText

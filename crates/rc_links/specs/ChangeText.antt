-- A change of a runlevel's folder, as lists.
use Rattle.init_words.specs.declared.levels.Level.{Level}
use Rattle.rc_links.specs.EntryText.{EntryText}
use Rattle.rc_links.specs.declared.folders.LinkAction.{LinkAction}

-- the removal or creation of an entry of the folder
pub record ChangeText : Type 0 where
  pub act : LinkAction
  pub level : Level
  pub entry : EntryText

-- Constructors of folders and of changes.
use Rattle.std.specs.Prelude.{List}
use Rattle.init_words.specs.declared.levels.Level.{Level}
use Rattle.rc_links.specs.ChangeText.{ChangeText}
use Rattle.rc_links.specs.EntryText.{EntryText}
use Rattle.rc_links.specs.FolderText.{FolderText}
use Rattle.rc_links.specs.declared.folders.LinkAction.{LinkAction}

abbrev pub folder_text : Level → List EntryText → List EntryText → FolderText
folder_text level planned held = record { level = level; planned = planned; held = held }

abbrev pub change_of : LinkAction → Level → EntryText → ChangeText
change_of act level entry = record { act = act; level = level; entry = entry }

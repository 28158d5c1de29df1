-- The versions of the saved state's text, and their limits on ids and tables.
use Rattle.std.specs.Prelude.{ℕ, Bool, ◌&&◌, nat_le, List, length}
use Rattle.std.specs.List.{list_all}
use Rattle.core_text.specs.CommonWords.{Entry}
use Rattle.init_words.specs.declared.ids.TheConstants.{ID_LIMIT}
use Rattle.inittab_text.specs.declared.tables.TheConstants.{ENTRY_LIMIT}
use Rattle.core_text.specs.declared.versions.TheConstants.{OLD_ID_LIMIT, OLD_ENTRY_LIMIT}
use Rattle.core_text.specs.declared.versions.Version.{Version}
use Rattle.core_text.specs.declared.versions.Version.TheVariants.{V1, V2}

-- the maximum length of an id in bytes
abbrev pub id_limit : Version → ℕ
id_limit V1 = OLD_ID_LIMIT
id_limit V2 = ID_LIMIT

-- the maximum number of entries in a table
abbrev pub entry_limit : Version → ℕ
entry_limit V1 = OLD_ENTRY_LIMIT
entry_limit V2 = ENTRY_LIMIT

-- the version allows the length of this id
abbrev pub holds_id : Version → List ℕ → Bool
holds_id version id = nat_le (length id) (id_limit version)

-- the version allows the number of entries of this table, and the lengths of their ids
abbrev pub holds_table : Version → List Entry → Bool
holds_table version table =
    nat_le (length table) (entry_limit version) && list_all (λ (e : Entry). holds_id version e.id) table

-- Entries of folders.
use Rattle.std.specs.Prelude.{ℕ, Bool, ◌&&◌, List}
use Rattle.std.specs.List.{list_any}
use Rattle.std.specs.Str.{bytes_eq}
use Rattle.rc_links.specs.EntryText.{EntryText}

abbrev pub entry_of : List ℕ → List ℕ → EntryText
entry_of name leads = record { name = name; leads = leads }

-- two entries have the same name and the same target
abbrev pub same_entry : EntryText → EntryText → Bool
same_entry a b = bytes_eq a.name b.name && bytes_eq a.leads b.leads

-- one of the entries has the name
abbrev pub has_name : List ℕ → List EntryText → Bool
has_name name entries = list_any (λ (e : EntryText). bytes_eq name e.name) entries

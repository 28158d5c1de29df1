-- Examples: a script with a link in a runlevel that its header does not name, after each of its changes; and cases that
-- can't be handled.
use Rattle.rc_links.proofs.Words.{◌≡◌, ℕ, true, List, [], ◌∷◌, ◌++◌, map, take, codes, refl, byte, Level, L2, L3, L5}
use Rattle.rc_links.proofs.Words.{ChangeText, changes_of, is_in_way, making, removal, entry_of, EntryText, FolderText}
use Rattle.rc_links.proofs.Words.{folder_text, kept_plan, kept_script, levels_in, linked_name, links_at, AreApart}
use Rattle.rc_links.proofs.Words.{Stays, behind, PlannedText}
use Rattle.std.proofs.Common.{flat_map}
use Rattle.rc_links.proofs.MendingLemmas.{all_own, kept_stays}

abbrev net : PlannedText
net = record { name = codes "net"; start = 1; stop = 1; starts = L2 ∷ L3 ∷ []; stops = [] }

abbrev web : PlannedText
web = record { name = codes "web"; start = 2; stop = 1; starts = L5 ∷ []; stops = [] }

abbrev link : List ℕ → EntryText
link name = entry_of name (codes "../init.d/" ++ linked_name name)

-- `web` has a link in rc3.d, with another number
abbrev read : List FolderText
read = folder_text L3 [] (link (codes "S20web") ∷ link (codes "S01net") ∷ []) ∷ folder_text L5 [] [] ∷ []

abbrev planned : Level → List EntryText
planned level = map link (links_at (kept_plan read (net ∷ web ∷ [])) level)

abbrev folders : List FolderText
folders = folder_text L3 (planned L3) (link (codes "S20web") ∷ link (codes "S01net") ∷ [])
    ∷ folder_text L5 (planned L5) [] ∷ []

abbrev targets : List (List ℕ)
targets = codes "../init.d/net" ∷ codes "../init.d/web" ∷ []

abbrev changes : List ChangeText
changes = flat_map (changes_of targets) folders

made_first : changes ≡ making L3 (link (codes "S02web")) ∷ removal L3 (link (codes "S20web")) ∷ []
made_first = refl

apart : AreApart folders
apart = (refl, (refl, tt))

stays : Stays targets (codes "web") folders
stays = (
  (record { both = refl; clear = refl }, (record { both = refl; clear = refl }, tt)),
  (record { both = refl; clear = refl }, (record { both = refl; clear = refl }, tt)),
)

-- it stays in runlevel 3
throughout : (count : ℕ) → kept_script (map (behind (take count changes)) folders) web ≡ record web { starts = L3 ∷ [] }
throughout count = kept_stays targets changes count folders web (all_own targets folders apart) stays

-- if its old link were removed first, it would have none
the_other_way : levels_in (byte "S") (codes "web") (map (behind (removal L3 (link (codes "S20web")) ∷ [])) folders) ≡ []
the_other_way = refl

-- a link with the name of another script's planned link has to be removed before that is created
named_otherwise : is_in_way targets (planned L3) (entry_of (codes "S01net") (codes "../init.d/web")) ≡ true
named_otherwise = refl

-- a script without links that was given only the first of two has the runlevel of that one
abbrev bare : List FolderText
bare = folder_text L2 (link (codes "S01net") ∷ []) [] ∷ folder_text L3 (link (codes "S01net") ∷ []) [] ∷ []

first_links : kept_script (map (behind (take 1 (flat_map (changes_of targets) bare))) bare) net
    ≡ record net { starts = L2 ∷ [] }
first_links = refl

-- Ids of inittab entries (inittab(5)).
use Rattle.std.specs.Prelude.{ℕ, Bool, not, ◌&&◌, ◌==◌, if◌then◌else◌, nat_le, List, length, slice_index, Option, Some}
use Rattle.std.specs.Prelude.{None}
use Rattle.std.specs.List.{list_all}
use Rattle.init_words.specs.declared.ids.TheConstants.{ID_LIMIT}
use Rattle.std.specs.Cmp.Lexicographic.{pointwise}

-- a byte from 33 to 126 that is not a colon
abbrev pub is_id_byte : ℕ → Bool
is_id_byte byte = nat_le 33 byte && nat_le byte 126 && not (byte == 58)

-- the text is an id: 1 to ID_LIMIT bytes, all of them allowed in an id, and the first not '#'
abbrev pub is_id : List ℕ → Bool
is_id text =
    nat_le 1 (length text) && nat_le (length text) ID_LIMIT && not (slice_index text 0 == 35)
    && list_all is_id_byte text

-- the text itself if it is an id, otherwise none
abbrev pub id_read : List ℕ → Option (List ℕ)
id_read text = if is_id text then Some text else None

-- the two ids have the same bytes
abbrev pub same_id : List ℕ → List ℕ → Bool
same_id = pointwise ◌==◌

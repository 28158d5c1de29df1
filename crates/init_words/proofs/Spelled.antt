-- An id is valid UTF-8.
use Rattle.std.proofs.Common.{◌≡◌, ℕ, ◌<◌, true, not, ◌&&◌, ◌==◌, nat_le, List, arith}
use Rattle.std.specs.Str.{IsUtf8}
use Rattle.std.proofs.lemmas.Bool.{and_parts, leb-true}
use Rattle.std.proofs.lemmas.List.Sums.{AllPass-from_list_all}
use Rattle.std.proofs.lemmas.Str.{IsUtf8-from_ascii}
use Rattle.std.proofs.lemmas.Str.Ascii.{IsAscii-from_all}
use Rattle.init_words.specs.Ids.{is_id, is_id_byte}
use Rattle.init_words.proofs.IdParts.{id_parts}

small : (byte : ℕ) → is_id_byte byte ≡ true → byte < 128
small byte h =
    let range = and_parts (nat_le 33 byte) (nat_le byte 126)
    (and_parts (nat_le 33 byte && nat_le byte 126) (not (byte == 58)) h).0 in
    let most = leb-true byte 126 range.1 in
    omega arith

pub id_utf8 : (id : List ℕ) → is_id id ≡ true → IsUtf8 id
id_utf8 id h =
    let every = (id_parts id h).bytes in
    IsUtf8-from_ascii id
    (IsAscii-from_all id (λ k d within. small _ (AllPass-from_list_all is_id_byte id every k d within)))

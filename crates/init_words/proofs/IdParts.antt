-- The four conditions that an id satisfies.
use Rattle.std.proofs.Common.{◌≡◌, ◌≤◌, ℕ, true, not, ◌&&◌, ◌==◌, nat_le, List, length, slice_index}
use Rattle.std.specs.List.{list_all}
use Rattle.std.proofs.lemmas.Bool.{and_parts, leb-true}
use Rattle.init_words.specs.declared.ids.TheConstants.{ID_LIMIT}
use Rattle.init_words.specs.Ids.{is_id, is_id_byte}

pub record IdParts (id : List ℕ) : Type 0 where
  pub filled : 1 ≤ length id
  pub few : length id ≤ ID_LIMIT
  pub begins : not (slice_index id 0 == 35) ≡ true
  pub bytes : list_all is_id_byte id ≡ true

pub id_parts : (id : List ℕ) → is_id id ≡ true → IdParts id
id_parts id is =
    let tests = and_parts (nat_le 1 (length id) && nat_le (length id) ID_LIMIT && not (slice_index id 0 == 35))
    (list_all is_id_byte id) is in
    let first =
    and_parts (nat_le 1 (length id) && nat_le (length id) ID_LIMIT) (not (slice_index id 0 == 35)) tests.0 in
    let lengths = and_parts (nat_le 1 (length id)) (nat_le (length id) ID_LIMIT) first.0 in
    record {
      filled = leb-true 1 (length id) lengths.0;
      few = leb-true (length id) ID_LIMIT lengths.1;
      begins = first.1;
      bytes = tests.1;
    }

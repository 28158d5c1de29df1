-- The fields of a header, as lists.
use Rattle.std.specs.Prelude.{ℕ, List, []}
use Rattle.init_words.specs.declared.levels.Level.{Level}

-- the values of the nine fields
pub record HeaderText : Type 0 where
  pub provides : List (List ℕ)
  pub required_start : List (List ℕ)
  pub required_stop : List (List ℕ)
  pub should_start : List (List ℕ)
  pub should_stop : List (List ℕ)
  pub default_start : List Level
  pub default_stop : List Level
  pub short_description : List ℕ
  pub description : List ℕ

-- the header of a facility: it provides these names, has no runlevels, starts after some names and stops before others,
-- if they are present
abbrev pub facility_header : (provides should_start should_stop : List (List ℕ)) → HeaderText
facility_header provides should_start should_stop = record {
  provides = provides;
  required_start = [];
  required_stop = [];
  should_start = should_start;
  should_stop = should_stop;
  default_start = [];
  default_stop = [];
  short_description = [];
  description = [];
}

-- A list of children from which all children of an id can be removed at once.
use Rattle.std.specs.Prelude.{◌≡◌, ℕ, ◌≤◌, Bool, true, false, not, if◌then◌else◌, nat_lt, nat_le, List, ◌∷◌, filter}
use Rattle.std.specs.Prelude.{find, map, unwrap_or, Option, Some, None}
use Rattle.std.specs.List.{list_all}
use Rattle.std.specs.Option.{option_map_or}
use Rattle.trace_view.specs.Words.{Child, at, has_number, is_child_of}
use Rattle.trace_view.specs.declared.child_lists.Arrival.{Arrival}

-- the arrival is still in the list: `gone` marks the earlier arrivals of an id as removed by a number above theirs, and
-- the number of this arrival is not below the mark for its id
abbrev pub stays : List (List ℕ × ℕ) → Arrival → Bool
stays gone a = nat_le (unwrap_or (at a.child.id gone) 0) a.number

abbrev pub child_in : Arrival → Child
child_in a = a.child

-- the children that are still in the list
abbrev pub staying : List (List ℕ × ℕ) → List Arrival → List Child
staying gone arrivals = map child_in (filter (stays gone) arrivals)

-- all arrivals have a number below this one
abbrev pub are_below : ℕ → List Arrival → Bool
are_below next arrivals = list_all (λ (a : Arrival). nat_lt a.number next) arrivals

-- the marks and the youngest children are right for this list of arrivals, youngest first, and for the number of the
-- next arrival
pub record IsListed (gone : List (List ℕ × ℕ)) (arrivals : List Arrival) (youngest : List (List ℕ × Child)) (next : ℕ)
    : Type 0 where
  pub below : are_below next arrivals ≡ true
  pub marks : (id : List ℕ) → unwrap_or (at id gone) 0 ≤ next
  pub found : (id : List ℕ) → at id youngest ≡ find (is_child_of id) (staying gone arrivals)

-- the list with one more child, if there is one
abbrev pub with_child : Option Child → List Child → List Child
with_child None children = children
with_child (Some child) children = child ∷ children

-- the list without the children of the id, if the youngest of these children has this number
abbrev pub without : List ℕ → ℕ → List Child → List Child
without id number children =
    if option_map_or (has_number number) (find (is_child_of id) children) false
    then filter (λ (child : Child). not (is_child_of id child)) children else children

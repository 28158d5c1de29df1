-- What follows from a test of an optional order, and of an optional entry.
use Rattle.trace_laws.proofs.Words.{◌≡◌, true, false, Option, Some, arith, option_map_or, Entry, OrderKind, is_order}

pub is_order-is : (ask : OrderKind) (o : Option OrderKind) → is_order ask o ≡ true → o ≡ Some ask
is_order-is ask o h = grind arith

-- a test that is false of each entry is false of an optional entry
pub never : (o : Option Entry) → false ≡ option_map_or (λ (e : Entry). false) o false
never o = grind arith

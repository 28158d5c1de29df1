-- A breach, in the form that the definition of the laws uses (`Fault`).
use Rattle.std.specs.Prelude.{ℕ}
use Rattle.trace_check.specs.Words.{Fault}
use Rattle.trace_check.specs.declared.laws.Law.{Law}
use Rattle.trace_check.specs.Laws.{law_number}

-- the breach of this law at this position
abbrev pub fault_at : ℕ → Law → Fault
fault_at position law = record { position = position; law = law_number law }

-- The seven laws: their numbers, and the message for a breach of each.
use Rattle.std.specs.Prelude.{ℕ, List, codes}
use Rattle.trace_check.specs.declared.laws.Law.{Law}
use Rattle.trace_check.specs.declared.laws.Law.TheVariants.{SecondChild, OutOfStage, OutOfTurn, BesideExcluded}
use Rattle.trace_check.specs.declared.laws.Law.TheVariants.{NotSettled, RespawnLimit, SignalNotDue}

abbrev pub law_number : Law → ℕ
law_number SecondChild = 1
law_number OutOfStage = 2
law_number OutOfTurn = 3
law_number BesideExcluded = 4
law_number NotSettled = 5
law_number RespawnLimit = 6
law_number SignalNotDue = 7

abbrev pub law_words : Law → List ℕ
law_words SecondChild = codes "the id has an unreaped child"
law_words OutOfStage = codes "the id has no entry that starts in the stage"
law_words OutOfTurn = codes "init waits for an earlier entry"
law_words BesideExcluded = codes "an excluded child is unreaped"
law_words NotSettled = codes "the level is not settled"
law_words RespawnLimit = codes "the respawn limit is violated"
law_words SignalNotDue = codes "the signal is not due"

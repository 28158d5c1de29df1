-- The message for each reason why the core rejects a call.
use Rattle.std.specs.Prelude.{ℕ, List, codes}
use Rattle.init_words.specs.declared.refusals.Refusal.{Refusal}
use Rattle.init_words.specs.declared.refusals.Refusal.TheVariants.{NotAsked, WrongAnswer, NotQuiet, Memory}

abbrev pub refusal_text : Refusal → List ℕ
refusal_text NotAsked = codes "no order is open for this id"
refusal_text WrongAnswer = codes "the open order of this id is of another kind"
refusal_text NotQuiet = codes "a start or a signal is not answered yet"
refusal_text Memory = codes "out of memory"

use Rattle.command_words.proofs.KnownLines.{known_faults, known_rows}
use Rattle.command_words.proofs.arguments.matched.Goals as goal

pub returns-clause-rows : goal.returns-clause-rows
returns-clause-rows c = λ free. known_rows _ _ c.in_ok-described.ensures.0 free _ c.try_get_matches_from.result
    c.try_get_matches_from.ensures.matches

pub returns-clause-faults : goal.returns-clause-faults
returns-clause-faults c = λ free. known_faults _ _ c.in_ok-described.ensures.0 free _ c.try_get_matches_from.result
    c.try_get_matches_from.ensures.kinds

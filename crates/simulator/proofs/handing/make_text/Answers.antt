use Rattle.simulator.proofs.Words.{◌∙◌, ap, state_of, CoreState}
use Rattle.core_text.specs.declared.versions.Version.TheVariants.{V2}
use Rattle.core_text.specs.Lines.{state_text}
use Rattle.simulator.proofs.handing.make_text.Goals as goal

pub returns-in-Ok-clause-text : goal.returns-in-Ok-clause-text
returns-in-Ok-clause-text g c =
    c.in-Ok.ensures.text ∙ ap (λ (core : CoreState). state_text (state_of core)) c.in-Ok.ensures.state

pub returns-in-Ok-clause-says : goal.returns-in-Ok-clause-says
returns-in-Ok-clause-says g c = (V2, (c.in-Ok.ensures.said c.requires.short).0)

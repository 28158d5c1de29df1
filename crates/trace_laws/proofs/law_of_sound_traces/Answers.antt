use Rattle.trace_laws.proofs.Laws.{sound_lawful}
use Rattle.trace_laws.proofs.law_of_sound_traces.Goals as goal

pub returns : goal.returns
returns c = sound_lawful

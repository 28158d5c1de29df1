use Rattle.initctl_frame.proofs.BlockLemmas.{blocks-joined, blocks-partial, blocks-whole}
use Rattle.initctl_frame.proofs.laws.blocks_are_parts.Goals as goal

pub returns-clause-whole : goal.returns-clause-whole
returns-clause-whole c = blocks-whole

pub returns-clause-partial : goal.returns-clause-partial
returns-clause-partial c = blocks-partial

pub returns-clause-joined : goal.returns-clause-joined
returns-clause-joined c = blocks-joined

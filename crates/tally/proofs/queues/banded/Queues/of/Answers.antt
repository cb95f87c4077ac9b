use Rattle.tally.specs.Queues.{same_by_band}
use Rattle.tally.proofs.queues.banded.Queues.of.Goals as goal

pub returns-clause-only : goal.returns-clause-only
returns-clause-only c = λ f h. same_by_band _ f h

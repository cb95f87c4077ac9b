use Rattle.tally.specs.Queues.{one_in}
use Rattle.tally.proofs.Counts.{one_at}
use Rattle.tally.proofs.queues.banded.Queues.one_in.Goals as goal

pub returns : goal.returns
unfolding one_in
returns c = c.of.ensures.only _ (λ k h. one_at k c.args.band h c.requires)

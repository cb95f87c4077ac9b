use Rattle.std.proofs.Common.{◌+◌, rules}
use Rattle.tally.specs.Queues.{stop, count_in}
use Rattle.tally.proofs.Made.{made_at}
use Rattle.tally.proofs.queues.QueuesTally.joined.Goals as goal

pub returns : goal.returns
returns c = c.of.ensures.only _ (made_at _ _ (λ band. stop (count_in c.args.self.now band + count_in c.args.other.now band)) (λ k y q h. search rules) c.from_fn.result 16 0 c.from_fn.ensures.items)

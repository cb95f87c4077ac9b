use Rattle.std.proofs.Common.{rules}
use Rattle.movements.specs.Pairs.{unused}
use Rattle.movements.specs.Coding.{pair_at, pairs_in}
use Rattle.tally.proofs.Made.{made}
use Rattle.movements.proofs.coding.pairs_in.Goals as goal

pub returns : goal.returns
unfolding pairs_in
returns c = made _ _ (pair_at c.args.bytes.now) (λ k y q h. search rules) c.from_fn.result 16 unused c.from_fn.ensures.items

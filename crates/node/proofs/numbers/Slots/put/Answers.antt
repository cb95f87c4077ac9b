use Rattle.std.proofs.Common.{arith, rules}
use Rattle.node.proofs.Places.{place_written}
use Rattle.node.proofs.numbers.Slots.put.Goals as goal

pub returns : goal.returns
returns c = place_written c.args.self.now.places c.args.number _ c.args.slot (omega (arith, c.from.ensures, c.requires.0)) (search rules)

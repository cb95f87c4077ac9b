use Rattle.tally.specs.Totals.{total}
use Rattle.tally.proofs.kind.kind_stands.Goals as goal

pub returns-clause-total : goal.returns-clause-total
returns-clause-total g c = total g.K.Tally.laws

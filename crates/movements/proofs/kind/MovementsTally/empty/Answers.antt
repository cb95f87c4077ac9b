use Rattle.movements.specs.Join.{empty}
use Rattle.movements.proofs.kind.MovementsTally.empty.Goals as goal

pub invariant_of-result : goal.invariant_of-result
invariant_of-result c = record { full = empty.full; small = empty.small; faultless = empty.faultless; fits = empty.fits }

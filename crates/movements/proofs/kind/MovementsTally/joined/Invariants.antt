use Rattle.std.proofs.Common.{◌+◌, length}
use Rattle.movements.specs.Pairs.{used}
use Rattle.movements.proofs.Walk.{Going}
use Rattle.movements.proofs.kind.MovementsTally.joined.Given as goal

abbrev pub invariant-loop-next : goal.invariant-loop-next
invariant-loop-next l = Going (used l.self.pairs) (used l.other.pairs) (l.self.rest + l.other.rest) l.left l.right l.gathered

abbrev pub decreases-loop-next : goal.decreases-loop-next
decreases-loop-next l = length l.left + length l.right

use Rattle.movements.proofs.Octets.{Writing}
use Rattle.movements.proofs.kind.MovementsTally.write.Given as goal

abbrev pub invariant-loop-i : goal.invariant-loop-i
invariant-loop-i l = Writing l.self.pairs l.initial.out l.out l.i

use Rattle.std.proofs.Common.{◌≡◌, drop}
use Rattle.movements.specs.Faults.{first_from, first_fault}
use Rattle.movements.proofs.coding.check_pairs.Given as goal

abbrev pub invariant-loop-index : goal.invariant-loop-index
invariant-loop-index l = first_from l.index l.before (drop l.index l.pairs) ≡ first_fault l.pairs

use Rattle.std.proofs.Common.{◌≡◌, ◌++◌, take, drop}
use Rattle.node_tokens.specs.Dropping.{living}
use Rattle.node_tokens.proofs.drop.drop_dead.Given as goal

abbrev pub invariant-loop-cell : goal.invariant-loop-cell
invariant-loop-cell g l = l.cells ≡ living g.K.Tally.kind l.frame (take l.cell-index l.initial.cells) ++ drop l.cell-index l.initial.cells

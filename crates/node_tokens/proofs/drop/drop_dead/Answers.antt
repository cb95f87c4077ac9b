use Rattle.node_tokens.proofs.Dropped.{lives_more, drops}
use Rattle.node_tokens.proofs.drop.drop_dead.Goals as goal

pub loop-cell-preserved : goal.loop-cell-preserved
loop-cell-preserved g c = lives_more g.K.Tally.kind c.args.frame.now c.args.cells.now c.loop-cell.cells c.loop-cell.cell-index c.cell-item.result c.left.result c.loop-cell-test.true c.loop-cell.invariant c.cell-item.is c.left.ensures

pub returns-clause-rule : goal.returns-clause-rule
returns-clause-rule g c = drops g.K.Tally.kind c.args.frame.now

use Rattle.table.proofs.Rows.{free_takes}
use Rattle.table.proofs.tables.Table.seek.Goals as goal

pub returns-in-None-clause-takes : goal.returns-in-None-clause-takes
returns-in-None-clause-takes g c = free_takes g.R.Record.keyed c.args.self.now.cells.now c.args.key.now c.free.result c.in-None.ensures.is c.free.ensures.is

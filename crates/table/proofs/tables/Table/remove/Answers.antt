use Rattle.table.proofs.Rows.{emptied}
use Rattle.table.proofs.tables.Table.remove.Goals as goal

pub returns-clause-keys : goal.returns-clause-keys
returns-clause-keys g c = emptied g.R.Record.keyed c.args.self.now.cells.now c.args.place

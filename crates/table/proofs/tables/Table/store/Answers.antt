use Rattle.table.proofs.Rows.{stored}
use Rattle.table.proofs.tables.Table.store.Goals as goal

pub returns-clause-keys : goal.returns-clause-keys
returns-clause-keys g c = stored g.R.Record.keyed c.args.self.now.cells.now c.args.place c.args.record

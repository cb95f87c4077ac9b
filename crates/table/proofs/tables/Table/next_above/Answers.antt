use Rattle.table.proofs.Order.{next_none, next_found}
use Rattle.table.proofs.tables.Table.next_above.Goals as goal

pub returns-in_err-key-clause-next : goal.returns-in_err-key-clause-next
returns-in_err-key-clause-next g c = rw c.from_residual.ensures (next_none g.R.Record.keyed c.args.self.now.cells.now c.args.last c.in_err-key.ensures)

pub returns-clause-next : goal.returns-clause-next
returns-clause-next g c = next_found g.R.Record.keyed c.args.self.now.cells.now c.args.last c.in_ok-key.key c.find.result c.in_ok-key.ensures c.find.ensures.is

use Rattle.std.proofs.Common.{length, rules}
use Rattle.table.proofs.Rows.{blank}
use Rattle.table.proofs.tables.Table.clear.Goals as goal

pub returns-clause-keys : goal.returns-clause-keys
returns-clause-keys g c = rw (c.fill.ensures.after (search rules)) (blank g.R.Record.keyed (length c.args.self.now.cells.now))

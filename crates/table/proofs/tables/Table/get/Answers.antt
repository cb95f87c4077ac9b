use Rattle.std.proofs.Common.{None, sym, ◌∙◌}
use Rattle.table.proofs.Rows.{place_none, place_at}
use Rattle.table.proofs.tables.Table.get.Goals as goal

pub returns-in_err-find : goal.returns-in_err-find
returns-in_err-find g c = c.from_residual.ensures ∙ sym (place_none g.R.Record.keyed c.args.self.now.cells.now c.args.key.now c.in_err-find.ensures.is)

pub returns : goal.returns
returns g c = c.at.ensures ∙ place_at g.R.Record.keyed c.args.self.now.cells.now c.args.key.now c.in_ok-find.field-0 None (sym c.in_ok-find.ensures.is)

use Rattle.std.proofs.Common.{◌≡◌, arith}
use Rattle.std.proofs.lemmas.Grind.{common_steps}
use Rattle.table.specs.Counts.{free_in}
use Rattle.table.proofs.Counts.{free_filled, used_keys}
use Rattle.table.proofs.tables.Table.free_places.Goals as goal

pub returns-clause-rest : goal.returns-clause-rest
returns-clause-rest g c = let e : c.count.result ≡ free_in c.args.self.now.cells.now = grind (arith, common_steps) in omega (arith, free_filled c.args.self.now.cells.now)

pub returns-clause-keys : goal.returns-clause-keys
returns-clause-keys g c = used_keys g.R.Record.keyed c.args.self.now.cells.now

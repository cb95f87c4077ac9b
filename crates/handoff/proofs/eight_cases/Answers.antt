use Rattle.handoff.proofs.Worked.{eight}
use Rattle.handoff.proofs.eight_cases.Goals as goal

pub returns : goal.returns
returns g c = eight g.row.K.Denot

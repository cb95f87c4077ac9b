use Rattle.line.proofs.Sessions.{invents_nothing}
use Rattle.line.proofs.orders.invents_nothing.Goals as goal

pub returns : goal.returns
returns g c = invents_nothing g.L.Line.honest

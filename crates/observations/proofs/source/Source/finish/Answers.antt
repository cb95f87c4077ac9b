use Rattle.std.proofs.Common.{sym, ap}
use Rattle.observations.proofs.Reading.{finish_line}
use Rattle.observations.proofs.source.Source.finish.Goals as goal

pub returns : goal.returns
returns c = λ text h. finish_line text _ c.args.self.now _ _ _ (sym c.in_ok-line.ensures.value) h (ap (λ hand. record c.args.self.now { line = hand }) c.take.ensures.after) (c.end_line.ensures h.lines h.rest)

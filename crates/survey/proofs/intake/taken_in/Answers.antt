use Rattle.std.proofs.Common.{[]}
use Rattle.survey.proofs.intake.taken_in.Goals as goal

pub returns : goal.returns
returns g c =
    let r = c.in_ok-read.ensures [] c.new-source.ensures in
    (r.0, record { source = c.read_all.new.source; reaches = r.1; figures = c.figures.ensures })

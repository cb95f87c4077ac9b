use Rattle.std.proofs.Common.{◌∙◌, arith}
use Rattle.tally.proofs.Counts.{write_more}
use Rattle.tally.proofs.queues.QueuesTally.write.Goals as goal

pub loop-band-preserved : goal.loop-band-preserved
loop-band-preserved c =
    c.write_at.ensures ∙ write_more c.args.self.now.counts c.args.out.now c.loop-band.out c.loop-band.band (omega (arith, c.args.self.now.fits.0)) (omega arith) c.loop-band.invariant

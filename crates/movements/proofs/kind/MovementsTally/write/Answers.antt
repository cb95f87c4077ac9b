use Rattle.std.proofs.Common.{◌∙◌, arith}
use Rattle.movements.proofs.Octets.{write_more, write_all}
use Rattle.movements.proofs.kind.MovementsTally.write.Goals as goal

pub loop-i-preserved : goal.loop-i-preserved
loop-i-preserved c = c.put_pair.ensures ∙ write_more c.args.self.now.pairs c.args.out.now c.loop-i.out c.loop-i.i (omega (arith, c.args.self.now.full)) (omega arith) c.loop-i.invariant

pub returns : goal.returns
returns c = c.write_at.ensures ∙ write_all c.args.self.now.pairs c.args.out.now c.loop-i.out c.loop-i.i _ c.args.self.now.full c.requires (omega arith) c.loop-i.invariant

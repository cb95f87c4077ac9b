use Rattle.std.proofs.Common.{Ok, Err, arith}
use Rattle.frame.specs.View.{viewed}
use Rattle.framelog.proofs.Counted.{judged_line}
use Rattle.framelog.proofs.scan.Scan.end_line.Goals as goal

pub returns-in-Ok-read : goal.returns-in-Ok-read
returns-in-Ok-read g c = λ text holds.
    let kind = g.K.Tally.kind in
    judged_line kind c.args.self.now c.accepted.new.self text c.in-Ok.bytes.now (Ok (viewed kind c.in-Ok-read.frame)) (c.in-Ok.ensures.written text holds) (omega arith) c.in-Ok-read.ensures.judged c.accepted.ensures

pub returns-in-Err-read : goal.returns-in-Err-read
returns-in-Err-read g c = λ text holds.
    let kind = g.K.Tally.kind in
    judged_line kind c.args.self.now c.refused.new.self text c.in-Ok.bytes.now (Err c.in-Err-read.fault) (c.in-Ok.ensures.written text holds) (omega arith) c.in-Err-read.ensures.judged c.refused.ensures

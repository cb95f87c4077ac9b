use Rattle.std.proofs.Common.{◌≤◌, length, take, arith}
use Rattle.std.proofs.lemmas.List.{length-take-le}
use Rattle.framelog.proofs.Splitting.{so_far_more}
use Rattle.framelog.proofs.scan.Scan.read_all.Goals as goal

pub loop-preserved : goal.loop-preserved
loop-preserved g c =
    let known = g.R.Read.remaining in
    let n = c.in-Ok.count in
    let buf = c.read.new.buf in
    let bound : n ≤ length buf = omega (arith, c.in-Ok.ensures.bound) in
    let some : 1 ≤ length (take n buf) = omega (arith, length-take-le n buf bound) in
    let more = c.in_ok-take_chunk-in-Ok.ensures in (
      omega arith,
      so_far_more g.K.Tally.kind c.args.self.now c.loop.self c.take_chunk.new.self c.loop.current.text c.take_chunk.new.current.text (known c.args.log.now) (known c.loop.log) (known c.read.new.self) (take n buf) c.loop.counter
          c.loop.invariant.1 c.in-Ok.ensures.bytes.0 some more.scan more.line,
    )

use Rattle.std.proofs.Common.{◌≡◌, length}
use Rattle.framelog.proofs.Splitting.{SoFar}
use Rattle.framelog.proofs.scan.Scan.read_all.Given as goal

abbrev pub invariant-loop : goal.invariant-loop
invariant-loop g l = (length l.buffer ≡ 4096) × SoFar g.K.Tally.kind l.initial.self l.self l.current.text (g.R.Read.remaining l.initial.log) (g.R.Read.remaining l.log) l.counter

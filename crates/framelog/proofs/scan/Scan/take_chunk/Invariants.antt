use Rattle.std.proofs.Common.{ℕ, List, take}
use Rattle.frame_logs.specs.Lines.{Holds}
use Rattle.framelog.proofs.Splitting.{Reached}
use Rattle.framelog.proofs.scan.Scan.take_chunk.Given as goal

abbrev pub invariant-loop-byte : goal.invariant-loop-byte
invariant-loop-byte g l = (line : List ℕ) → Holds l.initial.current.text line → Reached g.K.Tally.kind l.initial.self line (take l.byte-index l.chunk) l.self l.current.text

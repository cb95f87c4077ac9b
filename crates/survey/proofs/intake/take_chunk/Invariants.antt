use Rattle.std.proofs.Common.{ℕ, List, ◌++◌, take}
use Rattle.observations.specs.Source.{SoFar}
use Rattle.survey.proofs.intake.take_chunk.Given as goal

abbrev pub invariant-loop-byte : goal.invariant-loop-byte
invariant-loop-byte l = (text : List ℕ) → SoFar text l.initial.source → SoFar (text ++ take l.byte-index l.bytes) l.source

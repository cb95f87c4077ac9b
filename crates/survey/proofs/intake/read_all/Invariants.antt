use Rattle.std.proofs.Common.{◌≡◌, ℕ, List, ◌++◌, length}
use Rattle.observations.specs.Source.{SoFar}
use Rattle.survey.proofs.intake.read_all.Given as goal

abbrev pub invariant-loop : goal.invariant-loop
invariant-loop g l = (length l.buffer ≡ 65536) × ((text : List ℕ) → SoFar text l.fn.source → (more : List ℕ) × SoFar (text ++ more) l.source)

-- How far a source was read. Which text it has, no contract can say. Assumes nothing.
use Rattle.std.specs.Prelude.{◌≡◌, ℕ, Bool, List, [], Option, Result, Ok, Err, is_ok}
use Rattle.observations.specs.declared.source.RefusedLine.{RefusedLine}
use Rattle.observations.specs.declared.source.Source.{Source}
use Rattle.observations.specs.Source.{SoFar, Finished}
use Rattle.observations.specs.Figures.{Counts}
use Rattle.std.specs.declared.io.Error.{Error}
use Rattle.survey.specs.declared.intake.Intake.{Intake}
use Rattle.survey.specs.declared.intake.Unread.{Unread}
use Rattle.survey.specs.declared.intake.Unread.TheVariants.{Nothing, After}

-- the source after all of a text, or after a part at which reading stopped
abbrev pub Reaches : List ℕ → Source → Result (Unit {0}) Unread → Type 0
Reaches text source (Ok done) = (last : Option RefusedLine) × Finished text source last
Reaches text source (Err (Nothing error)) = ⊥
Reaches text source (Err (After number error)) = SoFar text source × (number ≡ source.ended)

-- it was read to its end
abbrev pub whole : Result (Unit {0}) Unread → Bool
whole read = is_ok read

-- what came of a source of which this text was read: the figures are those of its lines
pub record CameOf (text : List ℕ) (intake : Intake) : Type 0 where
  pub source : Source
  pub reaches : Reaches text source intake.read
  pub figures : intake.figures ≡ source.figures

-- nothing of the source could be read, and no line is counted
pub record NothingRead (intake : Intake) : Type 0 where
  pub error : Error
  pub read : intake.read ≡ Err (Nothing error)
  pub figures : Counts [] intake.figures

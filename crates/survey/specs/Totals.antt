-- The totals of all sources. Assumes nothing.
use Rattle.std.specs.Prelude.{◌≡◌, ℕ, ◌+◌, cond, List, ◌++◌}
use Rattle.observations.specs.Figures.{stopped, Counts}
use Rattle.survey.specs.declared.account.Totals.{Totals}
use Rattle.survey.specs.declared.intake.Intake.{Intake}
use Rattle.survey.specs.Intake.{whole}

-- one source more
pub record Added (before : Totals) (intake : Intake) (after : Totals) : Type 0 where
  pub figures : (lines more : List (List ℕ)) → Counts lines before.figures → Counts more intake.figures → Counts (lines ++ more) after.figures
  pub sources : after.sources ≡ stopped (before.sources + 1)
  pub unread : after.unread ≡ cond (whole intake.read) before.unread (stopped (before.unread + 1))

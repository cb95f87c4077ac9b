-- The figures of some lines. Assumes nothing.
use Rattle.std.specs.Prelude.{◌≡◌, ℕ, ◌-◌, ◌^◌, min, List, [], ◌∷◌, map, length, Result}
use Rattle.std.specs.List.{filter_map}
use Rattle.std.specs.Result.{result_ok, result_err}
use Rattle.tally.specs.Kind.{joins}
use Rattle.tally.specs.Queues.{queues, observed_queue}
use Rattle.observations.specs.declared.line.LineFault.{LineFault}
use Rattle.observations.specs.declared.figures.Figures.{Figures}
use Rattle.observations.specs.Line.{Says}

-- a counter stops at the largest number that it can hold
abbrev pub stopped : ℕ → ℕ
stopped n = min n (2 ^ 64 - 1)

-- the answer to each line
abbrev pub Answers : List (List ℕ) → List (Result ℕ LineFault) → Type 0
Answers [] [] = Unit {0}
Answers [] (answer ∷ answers) = ⊥
Answers (line ∷ lines) [] = ⊥
Answers (line ∷ lines) (answer ∷ answers) = Says line answer × Answers lines answers

-- the lengths among some answers
abbrev pub lengths : List (Result ℕ LineFault) → List ℕ
lengths answers = filter_map result_ok answers

-- the faults among some answers
abbrev pub faults : List (Result ℕ LineFault) → List LineFault
faults answers = filter_map result_err answers

-- the figures are those of the lines: the tally joins the observed queue of each line that writes a length,
-- and the counters say how many lines do, and how many do not
pub record Counts (lines : List (List ℕ)) (figures : Figures) : Type 0 where
  pub answers : List (Result ℕ LineFault)
  pub said : Answers lines answers
  pub tally : figures.tally ≡ joins queues (map observed_queue (lengths answers))
  pub taken : figures.taken ≡ stopped (length (lengths answers))
  pub refused : figures.refused ≡ stopped (length (faults answers))

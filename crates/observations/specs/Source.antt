-- A source: its text, cut into lines, and what was read of it. Assumes nothing.
use Rattle.std.specs.Prelude.{◌≡◌, ℕ, ◌+◌, Bool, true, false, List, [], ◌∷◌, ◌++◌, length, Some, None, is_some, Ok, Err, Option, Result}
use Rattle.std.specs.List.{flat_map, AllByRecursion}
use Rattle.observations.specs.declared.line.LineFault.{LineFault}
use Rattle.observations.specs.declared.line.Line.{Line}
use Rattle.observations.specs.declared.source.RefusedLine.{RefusedLine}
use Rattle.observations.specs.declared.source.Source.{Source}
use Rattle.observations.specs.Line.{Says}
use Rattle.observations.specs.Reader.{Has}
use Rattle.observations.specs.Figures.{stopped, Counts}

-- no newline
abbrev pub Plain : ℕ → Type 0
Plain b = b ≡ 10 → ⊥

-- a line with the newline that ends it
abbrev pub with_newline : List ℕ → List ℕ
with_newline line = line ++ 10 ∷ []

-- the text is these lines, each ended by a newline, and then a rest with none
pub record Cut (text : List ℕ) (lines : List (List ℕ)) (rest : List ℕ) : Type 0 where
  pub is : text ≡ flat_map with_newline lines ++ rest
  pub plain_lines : AllByRecursion (AllByRecursion Plain) lines
  pub plain_rest : AllByRecursion Plain rest

abbrev pub some_byte : List ℕ → Bool
some_byte [] = false
some_byte (b ∷ bytes) = true

-- the line in hand is the rest, where that has a byte
abbrev pub InHand : List ℕ → Option Line → Type 0
InHand rest None = rest ≡ []
InHand rest (Some line) = (some_byte rest ≡ true) × Has rest line

-- what was read of a source whose text so far is this
pub record SoFar (text : List ℕ) (source : Source) : Type 0 where
  pub lines : List (List ℕ)
  pub rest : List ℕ
  pub cut : Cut text lines rest
  pub counts : Counts lines source.figures
  pub ended : source.ended ≡ stopped (length lines)
  pub line : InHand rest source.line

-- a line is given back where it is refused
abbrev pub refusal : ℕ → Result ℕ LineFault → Option RefusedLine
refusal number (Ok n) = None
refusal number (Err fault) = Some (record { number = number; fault = fault })

-- the answer when a line ends that is the rest after these lines
pub record Told (lines : List (List ℕ)) (rest : List ℕ) (r : Option RefusedLine) : Type 0 where
  pub answer : Result ℕ LineFault
  pub says : Says rest answer
  pub is : r ≡ refusal (stopped (length lines + 1)) answer

-- the answer to one byte more
pub record Answered (text : List ℕ) (byte : ℕ) (r : Option RefusedLine) : Type 0 where
  pub lines : List (List ℕ)
  pub rest : List ℕ
  pub cut : Cut text lines rest
  pub at_newline : byte ≡ 10 → Told lines rest r
  pub elsewhere : Plain byte → r ≡ None

-- what a byte that is added to the rest leaves: the line in hand has begun
pub record Kept (before after : Source) : Type 0 where
  pub figures : after.figures ≡ before.figures
  pub ended : after.ended ≡ before.ended
  pub begun : is_some after.line ≡ true

-- the rest ends as a line, of which this was read
pub record LineEnded (lines : List (List ℕ)) (rest : List ℕ) (hand : Line) (before after : Source) (r : Option RefusedLine) : Type 0 where
  pub counts : Counts lines before.figures → Has rest hand → Counts (lines ++ rest ∷ []) after.figures
  pub ended : before.ended ≡ stopped (length lines) → after.ended ≡ stopped (length lines + 1)
  pub line : after.line ≡ before.line
  pub told : before.ended ≡ stopped (length lines) → Has rest hand → Told lines rest r

-- the rest, if it has a byte, is a line too
abbrev pub last_line : List ℕ → List (List ℕ)
last_line [] = []
last_line (b ∷ bytes) = (b ∷ bytes) ∷ []

-- all of the source is read
pub record Finished (text : List ℕ) (source : Source) (r : Option RefusedLine) : Type 0 where
  pub lines : List (List ℕ)
  pub rest : List ℕ
  pub cut : Cut text lines rest
  pub counts : Counts (lines ++ last_line rest) source.figures
  pub ended : source.ended ≡ stopped (length (lines ++ last_line rest))
  pub no_rest : rest ≡ [] → r ≡ None
  pub last : some_byte rest ≡ true → Told lines rest r

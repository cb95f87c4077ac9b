-- The text that a line has taken.
use Rattle.std.specs.Prelude.{◌≡◌, ℕ, List, Result}
use Rattle.frame_logs.specs.declared.standing.NoHexadecimal.{NoHexadecimal}
use Rattle.frame_logs.specs.declared.line.Line.{Line}
use Rattle.frame_logs.specs.Hexadecimal.{decoded}
use Rattle.frame_logs.specs.Steps.{kept_of}
use Rattle.frame_logs.specs.Held.{Shows}
use Rattle.frame_logs.specs.Text.{ends_in_return, trimmed}

-- its digits are those of the text without a return at the end, and it knows whether there is one
pub record Holds (line : Line) (text : List ℕ) : Type 0 where
  pub digits_shown : Shows line.digits (trimmed text)
  pub return_known : line.returned ≡ ends_in_return text

-- the bytes that the line's text writes, as many as are kept, or why it writes none
abbrev pub line_bytes : List ℕ → Result (List ℕ) NoHexadecimal
line_bytes text = kept_of (decoded (trimmed text))

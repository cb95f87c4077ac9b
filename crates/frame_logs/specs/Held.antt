-- The text that a reader of digits has taken.
use Rattle.std.specs.Prelude.{◌≡◌, ℕ, List}
use Rattle.frame_logs.specs.declared.digits.Digits.{Digits}
use Rattle.frame_logs.specs.Steps.{Seen, start, after}

abbrev pub seen : Digits → Seen
seen d = record { bytes = d.bytes.items; standing = d.standing }

-- it holds what this text gives
abbrev pub Shows : Digits → List ℕ → Type 0
Shows d text = seen d ≡ after start text

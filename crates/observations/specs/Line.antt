-- The rule of a line: which number it writes, and what is said of it. Assumes nothing.
use Rattle.std.specs.Prelude.{◌≡◌, ℕ, ◌-◌, ◌^◌, ◌<◌, ◌≤◌, ◌⊎◌, List, ◌++◌, map, length, Ok, Err, Result}
use Rattle.std.specs.List.{AllByRecursion}
use Rattle.std.specs.Int.Digits.{number_from_digits}
use Rattle.observations.specs.declared.line.LineFault.{LineFault}
use Rattle.observations.specs.declared.line.LineFault.TheVariants.{NotANumber, TooLarge}

-- a space, a tab or a carriage return
abbrev pub BlankByte : ℕ → Type 0
BlankByte b = (b ≡ 32) ⊎ ((b ≡ 9) ⊎ (b ≡ 13))

-- one of the characters 0 to 9
abbrev pub DigitByte : ℕ → Type 0
DigitByte b = (48 ≤ b) × (b ≤ 57)

-- the number that digits write in decimal
abbrev pub worth : List ℕ → ℕ
worth digits = number_from_digits 10 (map (λ b. b - 48) digits)

-- the line is blanks, then digits that write n, at least one, then blanks
pub record Writes (line : List ℕ) (n : ℕ) : Type 0 where
  pub before : List ℕ
  pub digits : List ℕ
  pub after : List ℕ
  pub is : line ≡ before ++ (digits ++ after)
  pub blank_before : AllByRecursion BlankByte before
  pub all_digits : AllByRecursion DigitByte digits
  pub some : 0 < length digits
  pub blank_after : AllByRecursion BlankByte after
  pub value : worth digits ≡ n

-- the answer to a line: its number when it writes one below 2 ^ 32, and else why there is none
pub record Says (line : List ℕ) (answer : Result ℕ LineFault) : Type 0 where
  pub taken : (n : ℕ) → answer ≡ Ok n → Writes line n × (n < 2 ^ 32)
  pub takes : (n : ℕ) → Writes line n → n < 2 ^ 32 → answer ≡ Ok n
  pub too_large : answer ≡ Err TooLarge → (n : ℕ) × Writes line n × (2 ^ 32 ≤ n)
  pub exceeds : (n : ℕ) → Writes line n → 2 ^ 32 ≤ n → answer ≡ Err TooLarge
  pub no_number : answer ≡ Err NotANumber → (n : ℕ) → Writes line n → ⊥
  pub no_other : ((n : ℕ) → Writes line n → ⊥) → answer ≡ Err NotANumber

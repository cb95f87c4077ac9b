-- What the reader of a line knows after some of its bytes. Assumes nothing.
use Rattle.std.specs.Prelude.{◌≡◌, ℕ, ◌+◌, ◌-◌, ◌*◌, ◌^◌, ◌<◌, cond, List, [], ◌++◌, length, Some, None, Err, Option, Result, nat_lt, ok_or}
use Rattle.std.specs.List.{AllByRecursion}
use Rattle.observations.specs.declared.line.LineFault.{LineFault}
use Rattle.observations.specs.declared.line.LineFault.TheVariants.{NotANumber, TooLarge}
use Rattle.observations.specs.declared.line.Mark.{Mark}
use Rattle.observations.specs.declared.line.Mark.TheVariants.{Blank, Digit, Other}
use Rattle.observations.specs.declared.line.Line.{Line}
use Rattle.observations.specs.declared.line.Line.TheVariants.{Blanks, Digits, Closed, Broken}
use Rattle.observations.specs.Line.{BlankByte, DigitByte, Writes}

-- the mark of a byte
abbrev pub Marks : ℕ → Mark → Type 0
Marks b Blank = BlankByte b
Marks b (Digit d) = DigitByte b × (d ≡ b - 48)
Marks b Other = (BlankByte b → ⊥) × (DigitByte b → ⊥)

-- the number, where a length can hold it
abbrev pub amount_of : ℕ → Option ℕ
amount_of n = cond (nat_lt n (2 ^ 32)) (Some n) None

-- what stands of a line after this text
abbrev pub Has : List ℕ → Line → Type 0
Has text Blanks = AllByRecursion BlankByte text
Has text (Digits a) = (n : ℕ) × (w : Writes text n) × (w.after ≡ []) × (a ≡ amount_of n)
Has text (Closed a) = (n : ℕ) × (w : Writes text n) × (0 < length w.after) × (a ≡ amount_of n)
Has text Broken = (more : List ℕ) (n : ℕ) → Writes (text ++ more) n → ⊥

-- one more digit behind
abbrev pub longer : Option ℕ → ℕ → Option ℕ
longer (Some n) d = amount_of (n * 10 + d)
longer None d = None

abbrev pub after_blank : Line → Line
after_blank Blanks = Blanks
after_blank (Digits a) = Closed a
after_blank (Closed a) = Closed a
after_blank Broken = Broken

abbrev pub after_digit : Line → ℕ → Line
after_digit Blanks d = Digits (amount_of d)
after_digit (Digits a) d = Digits (longer a d)
after_digit (Closed a) d = Broken
after_digit Broken d = Broken

abbrev pub said_of : Option ℕ → Result ℕ LineFault
said_of amount = ok_or amount TooLarge

abbrev pub said : Line → Result ℕ LineFault
said Blanks = Err NotANumber
said (Digits a) = said_of a
said (Closed a) = said_of a
said Broken = Err NotANumber

-- Bytes written in digits of base sixteen, two for each byte.
use Rattle.std.specs.Prelude.{ℕ, ◌+◌, ◌-◌, ◌*◌, if◌then◌else◌, ◌&&◌, List, [], ◌∷◌, Some, None, Ok, Err, Option, Result, nat_le}
use Rattle.frame_logs.specs.declared.standing.NoHexadecimal.{NoHexadecimal}
use Rattle.frame_logs.specs.declared.standing.NoHexadecimal.TheVariants.{OddDigits, NoDigit}

-- the digit that a byte of text is: 0 to 9, a to f, A to F
abbrev pub digit_of : ℕ → Option ℕ
digit_of b =
    if nat_le 48 b && nat_le b 57 then Some (b - 48)
    else if nat_le 97 b && nat_le b 102 then Some (b - 87)
    else if nat_le 65 b && nat_le b 70 then Some (b - 55)
    else None

-- the first byte of a text that is no digit
abbrev pub unless_digit : Option ℕ → ℕ → Option ℕ → Option ℕ
unless_digit None b later = Some b
unless_digit (Some d) b later = later

abbrev pub stranger : List ℕ → Option ℕ
stranger [] = None
stranger (b ∷ text) = unless_digit (digit_of b) b (stranger text)

-- the bytes whose two digits each stand in a text
abbrev pub pair_of : Option ℕ → Option ℕ → Option ℕ
pair_of None l = None
pair_of (Some h) None = None
pair_of (Some h) (Some l) = Some (h * 16 + l)

abbrev pub more_of : Option ℕ → Option (List ℕ) → Option (List ℕ)
more_of None bs = None
more_of (Some b) None = None
more_of (Some b) (Some bs) = Some (b ∷ bs)

abbrev pub bytes_of : List ℕ → Option (List ℕ)
bytes_of [] = Some []
bytes_of (h ∷ []) = None
bytes_of (h ∷ l ∷ text) = more_of (pair_of (digit_of h) (digit_of l)) (bytes_of text)

-- those bytes; or the first byte that is no digit; or that the last digit has no pair
abbrev pub verdict : Option ℕ → Option (List ℕ) → Result (List ℕ) NoHexadecimal
verdict (Some b) bs = Err (NoDigit b)
verdict None None = Err OddDigits
verdict None (Some bs) = Ok bs

abbrev pub decoded : List ℕ → Result (List ℕ) NoHexadecimal
decoded text = verdict (stranger text) (bytes_of text)

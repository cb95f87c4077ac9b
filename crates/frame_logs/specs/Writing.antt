-- Every row of bytes is written in digits, and read back.
use Rattle.std.specs.Prelude.{◌≡◌, ℕ, ◌+◌, ◌*◌, ◌/◌, ◌%◌, ◌<◌, if◌then◌else◌, List, [], ◌∷◌, Some, None, Ok, nat_lt, refl}
use Rattle.std.proofs.Common.{ap, ap₂, ◌∙◌, arith}
use Rattle.std.proofs.lemmas.Bool.Decides.{nat_tests}
use Rattle.frame_logs.specs.Hexadecimal.{digit_of, unless_digit, stranger, pair_of, more_of, bytes_of, verdict, decoded}

-- the small letter or figure of a digit
abbrev pub figure : ℕ → ℕ
figure d = if nat_lt d 10 then 48 + d else 87 + d

-- two figures for each byte
abbrev pub figures : List ℕ → List ℕ
figures [] = []
figures (b ∷ bs) = figure (b / 16) ∷ figure (b % 16) ∷ figures bs

-- bytes that are bytes
abbrev pub Bytes : List ℕ → Type 0
Bytes [] = Unit {0}
Bytes (b ∷ bs) = (b < 256) × Bytes bs

pub figure_read : (d : ℕ) → d < 16 → digit_of (figure d) ≡ Some d
figure_read d h = grind (arith, nat_tests)

no_stranger : (bs : List ℕ) → Bytes bs → stranger (figures bs) ≡ None
no_stranger [] o = refl
no_stranger (b ∷ bs) o =
    ap (λ d. unless_digit d (figure (b / 16)) (stranger (figure (b % 16) ∷ figures bs))) (figure_read (b / 16) (omega (arith, o.0)))
    ∙ ap (λ d. unless_digit d (figure (b % 16)) (stranger (figures bs))) (figure_read (b % 16) (omega arith)) ∙ no_stranger bs o.1

figures_read : (bs : List ℕ) → Bytes bs → bytes_of (figures bs) ≡ Some bs
figures_read [] o = refl
figures_read (b ∷ bs) o =
    ap₂ (λ h l. more_of (pair_of h l) (bytes_of (figures bs))) (figure_read (b / 16) (omega (arith, o.0))) (figure_read (b % 16) (omega arith))
    ∙ ap₂ (λ x r. more_of (Some x) r) (let e : b / 16 * 16 + b % 16 ≡ b = omega arith in e) (figures_read bs o.1)

-- what bytes are written as is decoded as those bytes
abbrev pub ReadBack : Type 0
ReadBack = (bs : List ℕ) → Bytes bs → decoded (figures bs) ≡ Ok bs

pub read_back : ReadBack
read_back bs o = ap₂ verdict (no_stranger bs o) (figures_read bs o)

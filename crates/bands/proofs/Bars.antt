-- How long a bar is. Assumes nothing.
use Rattle.std.proofs.Common.{◌≡◌, ℕ, zero, suc, ◌*◌, ◌/◌, ◌<◌, ◌≤◌, cond, eqb, leb, sym, subst, arith}
use Rattle.std.proofs.lemmas.Nat.{div_below}
use Rattle.std.proofs.lemmas.Grind.{div_ceil_times}
use Rattle.std.proofs.lemmas.Bool.{cond-false, cond_both, leb-false, ne_eqb}
use Rattle.std.specs.Int.{div_ceil}
use Rattle.bands.specs.Bar.{marks}

-- the marks of a count below the largest
abbrev part_of : ℕ → ℕ → ℕ
part_of count largest = div_ceil (count * 40) largest

-- of something a part is left, however small
ceil_some : (x y : ℕ) → 0 < x → 0 < y → 0 < div_ceil x y
ceil_some x y some h = elim (div_ceil x y) as (λ c. x ≤ c * y → 0 < c) [ zero ↦ λ e. absurd (omega arith) | suc n ↦ λ e. omega arith ] (div_ceil_times x y h).0

marks_some : (count largest : ℕ) → 0 < count → 0 < marks count largest
marks_some count largest h =
    let none : count ≡ 0 → ⊥ = λ z. omega arith in
    subst (λ r. 0 < r) (sym (cond-false (eqb count 0) 0 (cond (leb largest count) 40 (part_of count largest)) (ne_eqb count 0 none)))
    (cond_both (leb largest count) 40 (part_of count largest) (λ r. 0 < r) (λ _. omega arith)
    (λ e. let below : count < largest = leb-false largest count e in ceil_some (count * 40) largest (omega arith) (omega arith)))

marks_within : (count largest : ℕ) → marks count largest ≤ 40
marks_within count largest =
    cond_both (eqb count 0) 0 (cond (leb largest count) 40 (part_of count largest)) (λ r. r ≤ 40) (λ _. omega arith)
    (λ _. cond_both (leb largest count) 40 (part_of count largest) (λ r. r ≤ 40) (λ _. omega arith)
    (λ e. let below : count < largest = leb-false largest count e in
    let few : count * 40 / largest < 40 = div_below (count * 40) largest 40 (omega arith) (omega arith) in
    omega arith))

pub marks_some_of : (count largest r : ℕ) → r ≡ marks count largest → 0 < count → 0 < r
marks_some_of count largest r e h = subst (λ m. 0 < m) (sym e) (marks_some count largest h)

pub marks_within_of : (count largest r : ℕ) → r ≡ marks count largest → r ≤ 40
marks_within_of count largest r e = subst (λ m. m ≤ 40) (sym e) (marks_within count largest)

-- The share is the nearest. Assumes nothing.
use Rattle.std.proofs.Common.{◌≡◌, ℕ, ◌+◌, ◌*◌, ◌/◌, ◌<◌, ◌≤◌, eqb, sym, subst, arith}
use Rattle.std.proofs.lemmas.Nat.{div-add-mod', mod_below}
use Rattle.std.proofs.lemmas.Bool.{cond-false, ne_eqb}
use Rattle.bands.specs.Share.{tenths, Nearest}

-- the quotient, and the numbers around it
around : (x m : ℕ) → 0 < m → (x / m * m ≤ x) × (x < x / m * m + m)
around x m h = (omega (arith, div-add-mod' x m), omega (arith, div-add-mod' x m, mod_below x m h))

twice : (q w : ℕ) → q * (2 * w) ≡ 2 * (q * w)
twice q w = omega arith

nearest : (part whole : ℕ) → Nearest part whole (tenths part whole)
nearest part whole h =
    let x = 2000 * part + whole in
    let q = x / (2 * whole) in
    let e : tenths part whole ≡ q = cond-false (eqb whole 0) 0 q (ne_eqb whole 0 (λ z. omega arith)) in
    let a = around x (2 * whole) (omega arith) in
    subst (λ r. (2 * (r * whole) ≤ x) × (2000 * part < 2 * (r * whole) + whole)) (sym e) (omega (arith, a.0, twice q whole), omega (arith, a.1, twice q whole))

pub nearest_of : (part whole r : ℕ) → r ≡ tenths part whole → Nearest part whole r
nearest_of part whole r e = subst (Nearest part whole) (sym e) (nearest part whole)

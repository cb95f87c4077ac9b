use Rattle.std.proofs.Common.{◌≡◌, ℕ, ◌^◌, ◌<◌, [], ◌∷◌, Some, refl, arith}
use Rattle.std.proofs.lemmas.Bool.Decides.{nat_tests}
use Rattle.movements.specs.declared.pair.Pair.{Pair}
use Rattle.movements.specs.Join.{keep}
use Rattle.movements.specs.One.{used_pair}
use Rattle.movements.proofs.Lawful.{lawful_as}
use Rattle.movements.proofs.kept.Movements.of_one.Goals as goal

used : (key count : ℕ) (p : Pair) → Some p ≡ used_pair key count → (0 < p.key) × (0 < p.count) × (p.key ≡ key) × (p.count ≡ count)
used key count p e = (grind (arith, nat_tests), grind (arith, nat_tests), grind (arith, nat_tests), grind (arith, nat_tests))

pub invariant_of-result : goal.invariant_of-result
invariant_of-result c =
    let p = c.in_ok-pair.pair in
    let u = used c.args.key c.args.count p c.in_ok-pair.ensures in
    let k : p.key < 2 ^ 32 = omega (arith, c.ranges.key.fits, u.2) in
    let n : p.count < 2 ^ 32 = omega (arith, c.ranges.count.fits, u.3) in
    let k = lawful_as (keep (p ∷ []) (u.0, u.1, k, n, tt) 0) _ _ refl refl in record { full = k.0; small = k.1; faultless = k.2; fits = k.3 }

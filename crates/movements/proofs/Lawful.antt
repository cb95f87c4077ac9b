-- Pairs and a rest that are those of a tally are lawful.
use Rattle.std.proofs.Common.{◌≡◌, ℕ, ◌^◌, ◌<◌, List, length, sym, subst}
use Rattle.movements.specs.declared.kept.Movements.{Movements}
use Rattle.movements.specs.declared.pair.Pair.{Pair}
use Rattle.movements.specs.Faults.{Small, Faultless}

pub lawful_as : (x : Movements) (ps : List Pair) (r : ℕ) → ps ≡ x.pairs → r ≡ x.rest → (length ps ≡ 16) × Small ps × Faultless ps × (r < 2 ^ 32)
lawful_as x ps r p q = (
  subst (λ qs. length qs ≡ 16) (sym p) x.full,
  subst Small (sym p) x.small,
  subst Faultless (sym p) x.faultless,
  subst (λ n. n < 2 ^ 32) (sym q) x.fits,
)

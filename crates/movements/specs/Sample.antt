-- A join in which a key is left out: keys 2 to 17 with count 1, and key 1 with count 4.
use Rattle.std.specs.Prelude.{◌≡◌, ℕ, zero, suc, ◌+◌, ◌^◌, ◌<◌, List, [], ◌∷◌, refl}
use Rattle.std.proofs.Common.{arith}
use Rattle.movements.specs.declared.kept.Movements.{Movements}
use Rattle.movements.specs.declared.pair.Pair.{Pair}
use Rattle.movements.specs.Pairs.{among, merged}
use Rattle.movements.specs.Merging.{Rising}
use Rattle.movements.specs.Join.{keep, join}

-- n pairs with keys from k on, and counts of 1
abbrev pub ones : ℕ → ℕ → List Pair
ones k zero = []
ones k (suc n) = record { key = k; count = 1 } ∷ ones (k + 1) n

pub ones_rise : (n l k : ℕ) → l < k → k + n < 2 ^ 32 → Rising l (ones k n)
ones_rise zero l k h s = tt
ones_rise (suc n) l k h s = (h, omega arith, omega arith, omega arith, ones_rise n k (k + 1) (omega arith) (omega arith))

abbrev pub four : Pair
four = record { key = 1; count = 4 }

abbrev pub sixteen_keys : Movements
sixteen_keys = keep (ones 2 16) (ones_rise 16 0 2 (omega arith) (omega arith)) 0

abbrev pub one_key : Movements
one_key = keep (four ∷ []) (omega arith, omega arith, omega arith, omega arith, tt) 0

-- keys 1 to 16 are kept, and the rest is 1
abbrev pub Sample : Type 0
Sample = ((join sixteen_keys one_key).pairs ≡ four ∷ ones 2 15) × ((join sixteen_keys one_key).rest ≡ 1)

pub sample : Sample
unfolding merged among
sample = (refl, refl)

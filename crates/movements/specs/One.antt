-- The tally of one pair.
use Rattle.std.specs.Prelude.{◌≡◌, ℕ, ◌<◌, cond, ◌||◌, ◌⊎◌, [], ◌∷◌, Some, None, Option, ◌==◌}
use Rattle.movements.specs.declared.kept.Movements.{Movements}
use Rattle.movements.specs.declared.pair.Pair.{Pair}
use Rattle.movements.specs.Pairs.{filled}

-- a used pair; there is none where the key or the count is 0
abbrev pub used_pair : ℕ → ℕ → Option Pair
used_pair key count = cond (key == 0 || count == 0) None (Some (record { key = key; count = count }))

-- a used pair alone, with rest 0
abbrev pub OfOne : ℕ → ℕ → Option Movements → Type 0
OfOne k c None = (k ≡ 0) ⊎ (c ≡ 0)
OfOne k c (Some x) = (0 < k) × (0 < c) × (x.pairs ≡ filled 16 (record { key = k; count = c } ∷ [])) × (x.rest ≡ 0)

-- The lengths of a band. Assumes nothing.
use Rattle.std.specs.Prelude.{◌≡◌, ℕ, ◌+◌, ◌-◌, ◌<◌, ◌≤◌, cond, Some, None, Option, ◌==◌, nat_le, nat_lt, slice_index}
use Rattle.tally.specs.Queues.{edges, LastBand}
use Rattle.bands.specs.declared.bounds.Bounds.{Bounds}
use Rattle.bands.specs.declared.bounds.Bounds.TheVariants.{One, Between, From}

-- the lengths from one edge to the next
abbrev pub span : ℕ → ℕ → Bounds
span first next = cond (nat_le (next - first) 1) (One first) (Between first (next - 1))

abbrev pub bounds_of : ℕ → Option Bounds
bounds_of band = cond (nat_lt band 15) (Some (span (slice_index edges band) (slice_index edges (band + 1)))) (cond (band == 15) (Some (From (slice_index edges 15))) None)

-- the length n is within the bounds
abbrev pub Within : ℕ → Bounds → Type 0
Within n (One k) = n ≡ k
Within n (Between first last) = (first ≤ n) × (n ≤ last)
Within n (From first) = first ≤ n

-- the bounds have the lengths whose last band this is, and no other
pub record Bound (band : ℕ) (bounds : Bounds) : Type 0 where
  pub band_within : band < 16
  pub only : (n : ℕ) → Within n bounds → LastBand n band
  pub each : (n : ℕ) → LastBand n band → Within n bounds

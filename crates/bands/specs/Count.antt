-- What a counter says. Assumes nothing.
use Rattle.std.specs.Prelude.{◌≡◌, ℕ, ◌<◌, ◌≤◌, Bool, true, false}
use Rattle.bands.specs.declared.count.Count.{Count}
use Rattle.bands.specs.declared.count.Count.TheVariants.{Exact, AtLeast}

-- what is said of a number n by a counter that stops at this number
abbrev pub Means : ℕ → ℕ → Count → Type 0
Means stop n (Exact k) = (n ≡ k) × (n < stop)
Means stop n (AtLeast k) = (k ≡ stop) × (stop ≤ n)

abbrev pub exact : Count → Bool
exact (Exact k) = true
exact (AtLeast k) = false

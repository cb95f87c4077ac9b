-- The share of a part in a whole. Assumes nothing.
use Rattle.std.specs.Prelude.{ℕ, ◌+◌, ◌*◌, ◌/◌, ◌<◌, ◌≤◌, cond, ◌==◌}

-- the share of a part in a whole, in tenths of a percent: the whole number nearest to 1000 * part / whole, half up
abbrev pub tenths : ℕ → ℕ → ℕ
tenths part whole = cond (whole == 0) 0 ((2000 * part + whole) / (2 * whole))

-- r is the whole number nearest to 1000 * part / whole: their distance is at most a half, and below it upwards
abbrev pub Nearest : ℕ → ℕ → ℕ → Type 0
Nearest part whole r = 0 < whole → (2 * (r * whole) ≤ 2000 * part + whole) × (2000 * part < 2 * (r * whole) + whole)

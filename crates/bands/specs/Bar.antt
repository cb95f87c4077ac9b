-- The length of a bar. Assumes nothing.
use Rattle.std.specs.Prelude.{ℕ, ◌*◌, cond, ◌==◌, nat_le}
use Rattle.std.specs.Int.{div_ceil}

-- the marks of a count beside the largest: 40 * count / largest, rounded up
abbrev pub marks : ℕ → ℕ → ℕ
marks count largest = cond (count == 0) 0 (cond (nat_le largest count) 40 (div_ceil (count * 40) largest))

-- Counts that stop, and highest clocks.
use Rattle.std.specs.Prelude.{ℕ, ◌+◌, ◌-◌, ◌^◌, min, max, List, [], Some, None, Option, slice_index, slice_index_or, slice_set}
use Rattle.frame_logs.specs.declared.counts.Clocks.{Clocks}

-- a count stops at the largest that fits
abbrev pub stop : ℕ → ℕ
stop n = min n (2 ^ 64 - 1)

-- one more at a place; past the row, nothing changes
abbrev pub one_more : List ℕ → ℕ → List ℕ
one_more row i = slice_set row i (stop (slice_index row i + 1))

-- the count at a place of a row among rows; past them, 0
abbrev pub count_between : List (List ℕ) → ℕ → ℕ → ℕ
count_between rows i j = slice_index (slice_index_or rows i []) j

-- one more at a place of a row among rows; past the rows, nothing changes
abbrev pub one_more_between : List (List ℕ) → ℕ → ℕ → List (List ℕ)
one_more_between rows i j = slice_set rows i (one_more (slice_index_or rows i []) j)

-- each clock is the higher of both
abbrev pub highest : Option Clocks → Clocks → Clocks
highest None c = c
highest (Some k) c = record { source = max k.source c.source; destination = max k.destination c.destination }

abbrev pub raised : List (Option Clocks) → ℕ → Clocks → List (Option Clocks)
raised row i c = slice_set row i (Some (highest (slice_index_or row i None) c))

-- The table of a tally, and its rows. Assumes nothing.
use Rattle.std.specs.Prelude.{◌≡◌, ℕ, ◌-◌, ◌^◌, ◌<◌, ◌≤◌, min, cond, List, length, sum, nat_lt, slice_index}
use Rattle.tally.specs.Queues.{count_in}
use Rattle.tally.specs.declared.queues.banded.Queues.{Queues}
use Rattle.bands.specs.declared.count.Count.{Count}
use Rattle.bands.specs.declared.count.Count.TheVariants.{Exact, AtLeast}
use Rattle.bands.specs.declared.table.Row.{Row}
use Rattle.bands.specs.declared.table.Table.{Table}
use Rattle.bands.specs.Bar.{marks}
use Rattle.bands.specs.Bounds.{Bound}
use Rattle.bands.specs.Count.{Means}
use Rattle.bands.specs.Share.{tenths}

-- no count is above r, and r is 0 or one of the counts
abbrev pub Largest : List ℕ → ℕ → Type 0
Largest counts r = ((k : ℕ) → k < length counts → slice_index counts k ≤ r) × (0 < r → (k : ℕ) × (k < length counts) × (slice_index counts k ≡ r))

pub record TableOf (tally : Queues) (table : Table) : Type 0 where
  pub of : table.tally ≡ tally
  pub total : table.total ≡ sum tally.counts
  pub largest : Largest tally.counts table.largest

-- the sum of the counts: exact where each count is below its stop
abbrev pub total_count : Table → Count
total_count table = cond (nat_lt table.largest (2 ^ 32 - 1)) (Exact table.total) (AtLeast table.total)

-- a row tells of its band
pub record RowOf (table : Table) (band : ℕ) (row : Row) : Type 0 where
  pub bounds : Bound band row.bounds
  pub count : (n : ℕ) → count_in table.tally band ≡ min n (2 ^ 32 - 1) → Means (2 ^ 32 - 1) n row.count
  pub share : row.share.tenths ≡ tenths (count_in table.tally band) table.total
  pub bar : row.bar.marks ≡ marks (count_in table.tally band) table.largest

-- The keys of the records of these tests.
use Rattle.std.specs.Prelude.{◌≡◌, ℕ}
use Rattle.std.specs.Cmp.{nat_cmp_total}
use Rattle.std.proofs.lemmas.Map.Lookups.{exact_unsigned}
use Rattle.table.specs.Cells.{Keyed}
use Rattle.table.specs.Keys.{by_order, two_order, two_exact}
use Rattle.table_tests.specs.declared.coins.Coin.{Coin}
use Rattle.table_tests.specs.declared.coins.Ends.{Ends}
use Rattle.table_tests.specs.declared.coins.Mark.{Mark}

abbrev pub ends : ℕ → ℕ → Ends
ends source destination = record { source = source; destination = destination }

pub same_ends : (a b : Ends) → a.source ≡ b.source → a.destination ≡ b.destination → a ≡ b
same_ends a b p q = λ i. record { source = p i; destination = q i }

-- a coin goes by its source and then its destination
abbrev pub by_ends : Keyed Coin Ends
by_ends = by_order (two_order (λ e. e.source) (λ e. e.destination)) (two_exact (λ e. e.source) (λ e. e.destination) same_ends) (λ c. ends c.source c.destination)

-- a mark goes by its number
abbrev pub by_mark : Keyed Mark ℕ
by_mark = by_order nat_cmp_total exact_unsigned (λ m. m.number)

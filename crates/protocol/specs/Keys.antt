-- The keys of tokens and entries.
use Rattle.std.specs.Prelude.{◌≡◌, ℕ}
use Rattle.std.specs.Cmp.{nat_cmp_total}
use Rattle.std.proofs.lemmas.Map.Lookups.{exact_unsigned}
use Rattle.table.specs.Cells.{Keyed}
use Rattle.table.specs.Keys.{by_order, two_order, two_exact}
use Rattle.protocol.specs.declared.records.Pair.{Pair}
use Rattle.protocol.specs.declared.records.Token.{Token}
use Rattle.protocol.specs.declared.records.Entry.{Entry}

abbrev pub pair : ℕ → ℕ → Pair
pair source destination = record { source = source; destination = destination }

pub same_pair : (a b : Pair) → a.source ≡ b.source → a.destination ≡ b.destination → a ≡ b
same_pair a b p q = λ i. record { source = p i; destination = q i }

-- tokens by source and then destination
abbrev pub by_pair : {V : Type 0} → Keyed (Token V) Pair
by_pair = by_order (two_order (λ k. k.source) (λ k. k.destination)) (two_exact (λ k. k.source) (λ k. k.destination) same_pair) (λ t. pair t.source t.destination)

-- entries by number
abbrev pub by_entry : {V : Type 0} → Keyed (Entry V) ℕ
by_entry = by_order nat_cmp_total exact_unsigned (λ e. e.number)

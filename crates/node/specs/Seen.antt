-- A node and the places of its tallies, and a received frame, as the rules see them.
use Rattle.std.specs.Prelude.{◌≡◌, ℕ, ◌≤◌, cond, List, ◌∷◌, None, Option, ◌==◌, ◌≢◌, slice_index_or}
use Rattle.tally.specs.Kind.{Kind}
use Rattle.table.specs.Cells.{under, Apart, Each}
use Rattle.protocol.specs.Keys.{pair, by_pair}
use Rattle.protocol.specs.declared.records.Token.{Token}
use Rattle.protocol.specs.declared.records.Entry.{Entry}
use Rattle.frame.specs.View.{viewed}
use Rattle.frame.specs.declared.received.Received.{Received}
use Rattle.handoff.specs.Node as rule
use Rattle.handoff.specs.Showing.{shows}
use Rattle.node.specs.declared.numbers.Node.{Node}

-- sixteen places as a table by number, from 1 on
unfoldable pub by_number : {A : Type 0} → List (Option A) → ℕ → Option A
by_number places k = slice_index_or (None ∷ places) k None

-- own tokens lie in places of their own
unfoldable pub tokens_of : {V : Type 0} → ℕ → List (Option (Token V)) → List (Option (Token V)) → ℕ → ℕ → Option (Token V)
tokens_of i own cached k l = cond (k == i) (under by_pair own (pair k l)) (under by_pair cached (pair k l))

-- the node of the rules: its numbers and slots, its own value, its tokens and its entries
abbrev pub seen : {V : Type 0} → Node → V → List (Option (Token V)) → List (Option (Token V)) → (ℕ → Option (Entry V)) → rule.Node V
seen n value own cached entries = record {
  tier = n.tier;
  own = value;
  source_clock = n.source_clock;
  destination_clock = n.destination_clock;
  slots = by_number n.slots.places;
  tokens = tokens_of n.number own cached;
  version = n.version;
  entries = entries;
  retired = n.retired;
}

-- what a received frame shows
abbrev pub showing : {V : Type 0} → Kind V → Received → rule.View V
showing kind frame = shows (viewed kind frame)

-- the number of a node
abbrev pub IsNumber : ℕ → Type 0
IsNumber k = (1 ≤ k) × (k ≤ 16)

-- places of node i's own tokens, and of cached ones
pub record Own {V : Type 0} (i : ℕ) (cells : List (Option (Token V))) : Type 0 where
  pub each : Each (λ (t : Token V). (t.source ≡ i) × IsNumber t.destination) cells
  pub apart : Apart by_pair cells

pub record Cached {V : Type 0} (i : ℕ) (cells : List (Option (Token V))) : Type 0 where
  pub each : Each (λ (t : Token V). (t.source ≢ i) × IsNumber t.source × IsNumber t.destination) cells
  pub apart : Apart by_pair cells

-- A node: its own value, its clocks, its slots, tokens and entries.
use Rattle.std.specs.Prelude.{ℕ, zero, suc, ◌+◌, Bool, true, false, cond, not, ◌&&◌, Some, None, Option, ◌==◌}
use Rattle.tally.specs.Kind.{Kind}
use Rattle.protocol.specs.declared.records.Slot.{Slot}
use Rattle.protocol.specs.declared.records.Token.{Token}
use Rattle.protocol.specs.declared.records.Entry.{Entry}

pub record Node (V : Type 0) : Type 0 where
  -- 0 is a server's
  pub tier : ℕ
  pub own : V
  pub source_clock : ℕ
  pub destination_clock : ℕ
  -- by source
  pub slots : ℕ → Option Slot
  -- by source and destination; those of the node itself as source are its own tokens, the others are cached
  pub tokens : ℕ → ℕ → Option (Token V)
  -- of a server: how often tallies were joined to its own value
  pub version : ℕ
  -- of a server: what it knows of other servers, by number
  pub entries : ℕ → Option (Entry V)
  pub retired : Bool

-- a table with one place written
unfoldable pub put : {A : Type 0} → (ℕ → A) → ℕ → A → ℕ → A
put table key value k = cond (k == key) value (table k)

-- a table by two numbers with one place written
unfoldable pub put_pair : {A : Type 0} → (ℕ → ℕ → A) → ℕ → ℕ → A → ℕ → ℕ → A
put_pair table first second value k l = cond (k == first && l == second) value (table k l)

-- a step for each number from 1 to n, in order
unfoldable pub each : {A : Type 0} → (ℕ → A → A) → ℕ → A → A
each step zero a = a
each step (suc n) a = step (suc n) (each step n a)

-- the sum over the numbers from 1 to n
unfoldable pub sum : (ℕ → ℕ) → ℕ → ℕ
sum f zero = 0
sum f (suc n) = sum f n + f (suc n)

abbrev pub is_none : {A : Type 0} → Option A → Bool
is_none None = true
is_none (Some a) = false

-- 1 for a place that is used, 0 for a free one
abbrev pub used : {A : Type 0} → Option A → ℕ
used None = 0
used (Some a) = 1

-- the entry of a number at a node: its own entry holds its own value
abbrev pub entry_of : {V : Type 0} → ℕ → Node V → ℕ → Option (Entry V)
entry_of i node k = cond (k == i) (Some (record { number = i; version = node.version; tally = node.own })) (node.entries k)

-- what a frame shows of its sender
pub record View (V : Type 0) : Type 0 where
  pub tier : ℕ
  -- whether the own value is not empty
  pub holds : Bool
  pub source_clock : ℕ
  pub destination_clock : ℕ
  pub slots : ℕ → Option Slot
  pub tokens : ℕ → ℕ → Option (Token V)
  -- a server's entries, its own among them
  pub entries : ℕ → Option (Entry V)

-- what node i would show now
abbrev pub view : {V : Type 0} → Kind V → ℕ → Node V → View V
view kind i node = record {
  tier = node.tier;
  holds = not (kind.is_empty node.own);
  source_clock = node.source_clock;
  destination_clock = node.destination_clock;
  slots = node.slots;
  tokens = node.tokens;
  entries = λ k. cond (node.tier == 0) (entry_of i node k) None;
}

-- a new node of a tier
abbrev pub new_node : {V : Type 0} → Kind V → ℕ → Node V
new_node kind tier = record { tier = tier; own = kind.empty; source_clock = 0; destination_clock = 0; slots = λ _. None; tokens = λ _ _. None; version = 0; entries = λ _. None; retired = false }

-- The frame by which a node shows itself to another, and when a node is lawful, so that its frame is.
use Rattle.std.specs.Prelude.{◌≡◌, ℕ, zero, suc, ◌≤◌, cond, not, List, [], ◌∷◌, ◌++◌, Some, None, Option, ◌==◌, ◌≢◌}
use Rattle.std.specs.Option.{option_to_list}
use Rattle.tally.specs.Kind.{Kind}
use Rattle.protocol.specs.Limits.{tier_max, clock_max}
use Rattle.protocol.specs.declared.records.Slot.{Slot}
use Rattle.protocol.specs.declared.records.SourceSlot.{SourceSlot}
use Rattle.protocol.specs.declared.records.Token.{Token}
use Rattle.protocol.specs.declared.records.Entry.{Entry}
use Rattle.frame_items.specs.Items.{Number, FairSlot, FairToken, FairEntry}
use Rattle.frame.specs.Frames.{Frame}
use Rattle.handoff.specs.Node.{Node, entry_of, sum, used}

-- a list for each number from 1 to n, one after another
unfoldable pub listed : {A : Type 0} → (ℕ → List A) → ℕ → List A
listed items zero = []
listed items (suc n) = listed items n ++ items (suc n)

-- the slot for a number as an item of a frame
abbrev pub slot_item : ℕ → Option Slot → List SourceSlot
slot_item k None = []
slot_item k (Some s) = record { source = k; slot = s } ∷ []

-- each table as a list, by rising numbers
abbrev pub slot_list : {V : Type 0} → Node V → List SourceSlot
slot_list n = listed (λ k. slot_item k (n.slots k)) 16

abbrev pub token_list : {V : Type 0} → Node V → List (Token V)
token_list n = listed (λ k. listed (λ l. option_to_list (n.tokens k l)) 16) 16

abbrev pub entry_list : {V : Type 0} → ℕ → Node V → List (Entry V)
entry_list i n = cond (n.tier == 0) (listed (λ k. option_to_list (entry_of i n k)) 16) []

-- the frame of node i for an addressee
unfoldable pub frame_of : {V : Type 0} → Kind V → ℕ → ℕ → Node V → Frame V
frame_of kind i addressee n = record {
  sender = i;
  tier = n.tier;
  addressee = addressee;
  holds = not (kind.is_empty n.own);
  source_clock = n.source_clock;
  destination_clock = n.destination_clock;
  slot_list = slot_list n;
  token_list = token_list n;
  entry_list = entry_list i n;
}

-- node i is lawful: each record stands under its own number, within the limits, and places suffice
pub record LawfulNode {V : Type 0} (kind : Kind V) (i : ℕ) (n : Node V) : Type 0 where
  pub number : Number i
  pub tier_known : n.tier ≤ tier_max
  pub source_clock_within : n.source_clock ≤ clock_max
  pub destination_clock_within : n.destination_clock ≤ clock_max
  pub version_within : n.version ≤ clock_max
  -- a slot is of another node
  pub fair_slots : (k : ℕ) (s : Slot) → n.slots k ≡ Some s → FairSlot i (record { source = k; slot = s })
  pub fair_tokens : (k l : ℕ) (t : Token V) → n.tokens k l ≡ Some t → (t.source ≡ k) × (t.destination ≡ l) × FairToken kind t
  -- an entry besides the node's own is of another node
  pub fair_entries : (k : ℕ) (e : Entry V) → n.entries k ≡ Some e → (e.number ≡ k) × (k ≢ i) × FairEntry kind e
  -- at most 4 own tokens, 4 cached ones and, of a server, 4 entries with its own
  pub few_own : sum (λ l. used (n.tokens i l)) 16 ≤ 4
  pub few_cached : sum (λ k. cond (k == i) 0 (sum (λ l. used (n.tokens k l)) 16)) 16 ≤ 4
  pub few_entries : n.tier ≡ 0 → sum (λ k. used (entry_of i n k)) 16 ≤ 4

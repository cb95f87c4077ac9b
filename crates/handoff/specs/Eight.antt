-- Eight cases of the rules, worked out.
use Rattle.std.specs.Prelude.{◌≡◌, ℕ, ◌-◌, ◌^◌, Some, None}
use Rattle.tally.specs.Vehicles.{counted, vehicles}
use Rattle.tally.specs.Queues.{LastBand}
use Rattle.movements.specs.Sample.{Sample}
use Rattle.protocol.specs.declared.records.Token.{Token}
use Rattle.handoff.specs.Node.{Node, View}
use Rattle.handoff.specs.Taking.{drop_dead}

-- a node has a token with destination clock 3, for the sender of a frame that has no slot for its source and is at a clock
pub record Facing {V : Type 0} (j k : ℕ) (shown : View V) (t : Token V) (n : Node V) (clock : ℕ) : Type 0 where
  pub held : n.tokens k j ≡ Some t
  pub three : t.destination_clock ≡ 3
  pub slotless : shown.slots k ≡ None
  pub at : shown.destination_clock ≡ clock

pub record EightCases (V : Type 0) : Type 0 where
  -- queues of 0, 7, 8 and 50 vehicles
  pub queue_0 : LastBand 0 0
  pub queue_7 : LastBand 7 6
  pub queue_8 : LastBand 8 7
  pub queue_50 : LastBand 50 15
  -- a full count of vehicles joined with one more
  pub full_stays : vehicles.join (counted (2 ^ 64 - 1)) (counted 1) ≡ counted (2 ^ 64 - 1)
  -- keys 2 to 17 at 1, joined with key 1 at 4, keep 1 to 16 and rest 1
  pub sixteen_keys : Sample
  -- a token with destination clock 3 stays against a slotless frame at 3, and is dropped at 4
  pub stays : (j k : ℕ) (shown : View V) (t : Token V) (n : Node V) → Facing j k shown t n 3 → (drop_dead j shown n).tokens k j ≡ Some t
  pub dropped : (j k : ℕ) (shown : View V) (t : Token V) (n : Node V) → Facing j k shown t n 4 → (drop_dead j shown n).tokens k j ≡ None

-- The frame that the writer is given, and what it leaves in the buffer.
use Rattle.std.specs.Prelude.{◌≡◌, ℕ, ◌<◌, ◌≤◌, List, ◌++◌, length, drop, Ok, Err, Result}
use Rattle.tally.specs.Kind.{Kind}
use Rattle.frame.specs.Frames.{Frame, length_with, frame_bytes}
use Rattle.frame.specs.declared.outgoing.Outgoing.{Outgoing}
use Rattle.frame.specs.declared.outgoing.Unwritten.{Unwritten}
use Rattle.frame.specs.declared.outgoing.Unwritten.TheVariants.{TooMany, TooShort}

-- the frame that it carries
abbrev pub carried : {V : Type 0} → Outgoing V → Frame V
carried f = record {
  sender = f.sender;
  tier = f.tier;
  addressee = f.addressee;
  holds = f.holds;
  source_clock = f.source_clock;
  destination_clock = f.destination_clock;
  slot_list = f.slots.now;
  token_list = f.tokens.now;
  entry_list = f.entries.now;
}

-- the length of its writing
abbrev pub written_length : {V : Type 0} → Kind V → Outgoing V → ℕ
written_length kind f = length_with kind (length f.slots.now) (length f.tokens.now) (length f.entries.now)

-- no list is longer than a lawful frame's
pub record Few {V : Type 0} (f : Frame V) : Type 0 where
  pub slots : length f.slot_list ≤ 15
  pub tokens : length f.token_list ≤ 8
  pub entries : length f.entry_list ≤ 4

-- the answer, and the buffer before and after: the frame in the first bytes and the rest as it was, or a refusal and all as it was
abbrev pub Written : {V : Type 0} → Kind V → Frame V → List ℕ → List ℕ → Result ℕ Unwritten → Type 0
Written kind f before after (Ok n) = Few f × (n ≡ length (frame_bytes kind f)) × (after ≡ frame_bytes kind f ++ drop n before)
Written kind f before after (Err TooMany) = (Few f → ⊥) × (after ≡ before)
Written kind f before after (Err TooShort) = Few f × (length before < length (frame_bytes kind f)) × (after ≡ before)

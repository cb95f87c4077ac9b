-- The frame that the reader hands out.
use Rattle.std.specs.Prelude.{◌+◌, ◌/◌, ◌≤◌, not, ◌||◌, length, None, Ok, Err, Option, Result, ◌==◌}
use Rattle.tally.specs.Kind.{Kind}
use Rattle.protocol.specs.Limits.{frame_bytes_max}
use Rattle.protocol.specs.declared.refusal.Condition.TheVariants as condition
use Rattle.protocol.specs.declared.refusal.FrameFault.{FrameFault}
use Rattle.frame_items.specs.Format.{Format, or_else, row_of, row_fault}
use Rattle.frame_items.specs.Items.{unless, has_entry, slots, tokens, entries}
use Rattle.frame.specs.Frames.{Frame}
use Rattle.frame.specs.declared.received.Part.{Part}
use Rattle.frame.specs.declared.received.Received.{Received}

-- a part lies within a frame
abbrev pub Within : Part → Type 0
Within part = part.place + length part.bytes.now ≤ frame_bytes_max

pub record PartsWithin (r : Received) : Type 0 where
  pub slots : Within r.slots
  pub tokens : Within r.tokens
  pub entries : Within r.entries

-- the first fault of the items of a part
abbrev pub part_fault : {I : Type 0} → Format I → Part → Option FrameFault
part_fault format part = row_fault format (length part.bytes.now / format.width) 0 part.place part.bytes.now

module _ {V : Type 0} (kind : Kind V) where
  -- the frame that its fields and parts show
  abbrev pub viewed : Received → Frame V
  viewed r = record {
    sender = r.sender;
    tier = r.tier;
    addressee = r.addressee;
    holds = r.holds;
    source_clock = r.source_clock;
    destination_clock = r.destination_clock;
    slot_list = row_of (slots 0) r.slots.bytes.now;
    token_list = row_of (tokens kind) r.tokens.bytes.now;
    entry_list = row_of (entries kind) r.entries.bytes.now;
  }

  -- the first condition that its parts fail
  abbrev pub parts_fault : Received → Option FrameFault
  parts_fault r =
      or_else (part_fault (slots r.sender) r.slots)
      (or_else (part_fault (tokens kind) r.tokens)
      (or_else (part_fault (entries kind) r.entries) (unless (not (r.tier == 0) || has_entry r.sender (row_of (entries kind) r.entries.bytes.now)) condition.OwnEntry 16 None)))

  -- a reader's answer as a judgement
  abbrev pub answered : Result Received FrameFault → Result (Frame V) FrameFault
  answered (Ok r) = Ok (viewed r)
  answered (Err fault) = Err fault

-- Where the lists of a frame lie in its bytes.
use Rattle.std.specs.Prelude.{◌≡◌, ℕ, ◌+◌, ◌*◌, ◌≤◌, List, length, take, drop, slice_index}
use Rattle.tally.specs.Kind.{Kind}
use Rattle.protocol.specs.Limits.{frame_bytes_min, frame_bytes_max}
use Rattle.frame.specs.declared.received.Part.{Part}
use Rattle.frame.specs.declared.received.Received.{Received}
use Rattle.frame.specs.Frames.{tokens_place, entries_place, counted_length}

-- bytes are as long as a frame may be, and as their counts say
pub record Counted {V : Type 0} (kind : Kind V) (b : List ℕ) : Type 0 where
  pub long : frame_bytes_min ≤ length b
  pub short : length b ≤ frame_bytes_max
  pub counted : length b ≡ counted_length kind b

-- a part begins at a place of the bytes, and is so many of them
pub record Lies (b : List ℕ) (place long : ℕ) (part : Part) : Type 0 where
  pub begins : part.place ≡ place
  pub bytes : part.bytes.now ≡ take long (drop place b)
  pub ends : place + long ≤ length b

-- what a received frame says of itself, and its parts, are those of the bytes
pub record Laid {V : Type 0} (kind : Kind V) (b : List ℕ) (frame : Received) : Type 0 where
  pub sender : frame.sender ≡ slice_index b 2
  pub tier : frame.tier ≡ slice_index b 3
  pub slots : Lies b 17 (slice_index b 14 * 9) frame.slots
  pub tokens : Lies b (tokens_place b) (slice_index b 15 * (10 + kind.width)) frame.tokens
  pub entries : Lies b (entries_place kind b) (slice_index b 16 * (5 + kind.width)) frame.entries

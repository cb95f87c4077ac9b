-- The frame in a place, and its copy into a buffer.
use Rattle.std.specs.Prelude.{◌≡◌, ℕ, List, length, take, drop, replicate}
use Rattle.std.proofs.Common.{arith, lit≤}
use Rattle.std.proofs.lemmas.List.{length-take-le}
use Rattle.protocol.specs.Limits.{frame_bytes_min}
use Rattle.line.specs.Frames.{Frame, Sized}
use Rattle.line.specs.declared.held.Held.{Held}

-- the frame that a place holds
abbrev pub content : Held → Frame
content held = take held.size held.bytes

-- the frame in a place has the length of a frame
pub held_sized : (held : Held) → Sized (content held)
held_sized held =
    let l = length-take-le held.size held.bytes held.sized.2 in
    (omega (arith, l, held.sized), omega (arith, l, held.sized))

-- a place that holds zeros
abbrev pub blank : Held
blank = record { bytes = replicate frame_bytes_min 0; size = frame_bytes_min; sized = (lit≤ tt, lit≤ tt, lit≤ tt) }

-- a frame was copied into the first bytes of a buffer, so many, and the others stay
pub record Copied (frame : Frame) (buffer : List ℕ) (size : ℕ) (after : List ℕ) : Type 0 where
  pub all : size ≡ length frame
  pub copied : take size after ≡ frame
  pub rest_kept : drop size after ≡ drop size buffer

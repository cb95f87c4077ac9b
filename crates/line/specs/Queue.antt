-- The queue: its rule, and the frames in its places.
use Rattle.std.specs.Prelude.{ℕ, zero, suc, ◌+◌, ◌%◌, Bool, cond, ◌&&◌, List, [], ◌∷◌, ◌++◌, length, Option, nat_lt, slice_get, slice_index_or, drop}
use Rattle.line.specs.Places.{queue_places}
use Rattle.line.specs.Frames.{Frame, is_sized}
use Rattle.line.specs.Conduct.{Conduct}
use Rattle.line.specs.Rule.{Rule, by_rule}
use Rattle.line.specs.Held.{blank, content}
use Rattle.line.specs.declared.held.Held.{Held}
use Rattle.line.specs.declared.queue.Queue.{Queue}

-- while so many wait, a frame is kept if it has the length of a frame and a place is free
abbrev pub accepts : ℕ → Frame → Bool
accepts count frame = is_sized frame && nat_lt count queue_places

-- the oldest frame, or none
abbrev pub oldest : List Frame → Option Frame
oldest frames = slice_get frames 0

abbrev pub without_oldest : List Frame → List Frame
without_oldest frames = drop 1 frames

-- a queue shows its frames, the oldest first
abbrev pub queue_rule : Rule (List Frame)
queue_rule = record {
  waiting = λ frames. frames;
  put = λ frames frame. cond (accepts (length frames) frame) (frames ++ frame ∷ []) frames;
  gives = oldest;
  left = without_oldest;
}

-- the place that comes after a place in the ring
abbrev pub next_place : ℕ → ℕ
next_place at = (at + 1) % queue_places

-- the frames in so many places of the ring
abbrev pub around : List Held → ℕ → ℕ → List Frame
around places at zero = []
around places at (suc n) = content (slice_index_or places at blank) ∷ around places (next_place at) n

-- the frames in a queue
abbrev pub queued : Queue → List Frame
queued queue = around queue.places queue.first queue.count

abbrev pub queue_line : Conduct Queue
queue_line = by_rule queued queue_rule

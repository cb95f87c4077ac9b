-- What the queue's rule gives over whole sessions.
use Rattle.std.specs.Prelude.{◌≡◌, ℕ, ◌+◌, ◌-◌, ◌<◌, ◌≤◌, cond, ◌⊎◌, List, [], ◌∷◌, ◌++◌, length, Some, None}
use Rattle.line.specs.Places.{queue_places}
use Rattle.line.specs.Frames.{Frame, Sized}
use Rattle.line.specs.Session.{Event, Session, put, took, given, OneOutcome}
use Rattle.line.specs.Queue.{queue_line, queued, accepts}
use Rattle.line.specs.declared.queue.Queue.{Queue}

-- the frames that a queue keeps of those put, while so many wait at the start
abbrev pub accepted : ℕ → List Event → List Frame
accepted count [] = []
accepted count (put frame ∷ events) = cond (accepts count frame) (frame ∷ accepted (count + 1) events) (accepted count events)
accepted count (took (Some frame) ∷ events) = accepted (count - 1) events
accepted count (took None ∷ events) = accepted count events

pub record QueueOrder : Type 0 where
  -- first in, first out: those given and then those that still wait are all that were accepted, in order
  pub in_order : (s t : Queue) (events : List Event) → queued s ≡ [] → Session queue_line s events t → accepted 0 events ≡ given events ++ queued t
  -- the same from any start: those that waited then come first
  pub goes_on : (s t : Queue) (events : List Event) → Session queue_line s events t → queued s ++ accepted (length (queued s)) events ≡ given events ++ queued t
  -- a frame is kept as the newest while fewer than eight wait
  pub kept : (s t : Queue) (frame : Frame) → queue_line.puts s frame t → Sized frame → length (queued s) < queue_places → queued t ≡ queued s ++ frame ∷ []
  -- it is lost only at a wrong length or when eight wait, and then nothing changes
  pub lost : (s t : Queue) (frame : Frame) → queue_line.puts s frame t → (Sized frame → ⊥) ⊎ (queue_places ≤ length (queued s)) → queued t ≡ queued s
  -- never more than eight wait
  pub bounded : (s : Queue) → length (queued s) ≤ queue_places
  -- taking says none only when none waits
  pub none_waits : (s t : Queue) → queue_line.takes s None t → queued s ≡ []
  pub one_outcome : OneOutcome queued queue_line

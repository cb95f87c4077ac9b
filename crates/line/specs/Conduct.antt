-- What a line is: the frames that wait in it, where putting and taking may lead, and when that is honest.
use Rattle.std.specs.Prelude.{◌≡◌, ℕ, ◌<◌, ◌≤◌, ◌⊎◌, List, length, take, drop, Some, None, Ok, Err, Option, Result}
use Rattle.protocol.specs.Limits.{frame_bytes_max}
use Rattle.line.specs.Frames.{Frame, Sized, In}
use Rattle.line.specs.declared.interface.BufferTooShort.{BufferTooShort}

-- a line whose states are of the type S
pub record Conduct (S : Type 0) : Type 1 where
  -- the frames that wait
  pub waiting : S → List Frame
  -- from a state, putting a frame may lead to a state
  pub puts : S → Frame → S → Type 0
  -- from a state, taking may give a frame, or none, and lead to a state
  pub takes : S → Option Frame → S → Type 0

pub record Honest {S : Type 0} (line : Conduct S) : Type 0 where
  -- what waits has the length of a frame
  pub sized : (s : S) (frame : Frame) → In frame (line.waiting s) → Sized frame
  -- what waits after putting waited before, or is the new frame unaltered
  pub put : (s t : S) (new frame : Frame) → line.puts s new t → In frame (line.waiting t) → In frame (line.waiting s) ⊎ (frame ≡ new)
  -- what taking gives waited
  pub gave : (s t : S) (frame : Frame) → line.takes s (Some frame) t → In frame (line.waiting s)
  -- what waits after taking waited before
  pub took : (s t : S) (answer : Option Frame) (frame : Frame) → line.takes s answer t → In frame (line.waiting t) → In frame (line.waiting s)

-- taking was refused: the buffer is too short, and nothing has changed
pub record Refused {S : Type 0} (s : S) (buffer : List ℕ) (t : S) (after : List ℕ) : Type 0 where
  pub short : length buffer < frame_bytes_max
  pub line_kept : t ≡ s
  pub buffer_kept : after ≡ buffer

-- taking found that none waits, and left the buffer
pub record GaveNone {S : Type 0} (line : Conduct S) (s : S) (buffer : List ℕ) (t : S) (after : List ℕ) : Type 0 where
  pub long : frame_bytes_max ≤ length buffer
  pub taken : line.takes s None t
  pub buffer_kept : after ≡ buffer

-- taking gave a frame in the buffer's first bytes, and left the others
pub record GaveFrame {S : Type 0} (line : Conduct S) (s : S) (buffer : List ℕ) (size : ℕ) (t : S) (after : List ℕ) : Type 0 where
  pub long : frame_bytes_max ≤ length buffer
  pub within : size ≤ length buffer
  pub taken : line.takes s (Some (take size after)) t
  pub rest_kept : drop size after ≡ drop size buffer

-- what a taking from the state s into a buffer answers, the state t that it leads to, and what the buffer holds after
abbrev pub Took : {S : Type 0} → Conduct S → S → List ℕ → Result (Option ℕ) BufferTooShort → S → List ℕ → Type 0
Took line s buffer (Err _) t after = Refused s buffer t after
Took line s buffer (Ok None) t after = GaveNone line s buffer t after
Took line s buffer (Ok (Some size)) t after = GaveFrame line s buffer size t after

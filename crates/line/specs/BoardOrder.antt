-- What the board's rule gives over whole sessions.
use Rattle.std.specs.Prelude.{◌≡◌, ℕ, ◌+◌, ◌-◌, ◌*◌, ◌%◌, ◌≤◌, cond, ◌&&◌, List, [], ◌∷◌, Some, None, Option, ◌==◌, ◌≢◌}
use Rattle.std.specs.Option.{option_or}
use Rattle.protocol.specs.Limits.{nodes_max}
use Rattle.line.specs.Frames.{Frame, In}
use Rattle.line.specs.Session.{Event, Session, put, took, sent, OneOutcome}
use Rattle.line.specs.Board.{board_line, sender_of, Postable, is_postable, latest_of, shows, nothing_shown}
use Rattle.line.specs.declared.board.Board.{Board}

-- the latest frame put by a sender, of those that a board keeps
abbrev pub latest_put : ℕ → List Event → Option Frame
latest_put n [] = None
latest_put n (put frame ∷ events) = option_or (latest_put n events) (cond (is_postable frame && n == sender_of frame) (Some frame) None)
latest_put n (took answer ∷ events) = latest_put n events

-- the sender of the frame that was last given, if the one before is known
abbrev pub last_given : ℕ → List Event → ℕ
last_given last [] = last
last_given last (put frame ∷ events) = last_given last events
last_given last (took (Some frame) ∷ events) = last_given (sender_of frame) events
last_given last (took None ∷ events) = last_given last events

-- how many senders come before one in the round after the last
abbrev pub ahead : ℕ → ℕ → ℕ
ahead last n = (n + 2 * nodes_max - (last + 1)) % nodes_max

-- from an empty board, events led to this state
pub record Since (events : List Event) (t : Board) : Type 0 where
  pub start : Board
  pub empty : shows start ≡ nothing_shown
  pub session : Session board_line start events t

pub record BoardOrder : Type 0 where
  -- what taking gives is the latest frame put by its sender
  pub gives_latest : (events : List Event) (t u : Board) → Since events t → (frame : Frame) → board_line.takes t (Some frame) u → latest_put (sender_of frame) events ≡ Some frame
  -- senders come in turn: of all that have a frame, none comes sooner in the round after the last one given, at first from 1
  pub in_turn : (events : List Event) (t u : Board) → Since events t → (frame : Frame) → board_line.takes t (Some frame) u → (n : ℕ) (other : Frame) → latest_put n events ≡ Some other → ahead (last_given 0 events) (sender_of frame) ≤ ahead (last_given 0 events) n
  -- taking says none only if nothing that a board keeps was ever put
  pub none_put : (events : List Event) (t u : Board) → Since events t → board_line.takes t None u → (frame : Frame) → In frame (sent events) → Postable frame → ⊥
  -- and only when none waits
  pub none_waits : (s t : Board) → board_line.takes s None t → board_line.waiting s ≡ []
  -- a frame is lost only at a wrong length or a sender outside 1 to 16, and then nothing changes
  pub kept : (s t : Board) (frame : Frame) → board_line.puts s frame t → Postable frame → latest_of t (sender_of frame) ≡ Some frame
  pub lost : (s t : Board) (frame : Frame) → board_line.puts s frame t → (Postable frame → ⊥) → shows t ≡ shows s
  -- the frames of other senders stay, and all stay when one is taken
  pub others_stay : (s t : Board) (frame : Frame) → board_line.puts s frame t → (n : ℕ) → (n ≢ sender_of frame) → latest_of t n ≡ latest_of s n
  pub stays : (s t : Board) (answer : Option Frame) → board_line.takes s answer t → (n : ℕ) → latest_of t n ≡ latest_of s n
  pub one_outcome : OneOutcome shows board_line

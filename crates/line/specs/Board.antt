-- The board: its rule, and the frames in its places.
use Rattle.std.specs.Prelude.{ℕ, zero, suc, ◌+◌, ◌%◌, ◌≤◌, Bool, cond, ◌&&◌, List, [], ◌++◌, is_some, Some, None, Option, option_map, option_and_then, option_to_list, unwrap_or, ◌==◌, nat_le, slice_index, slice_index_or}
use Rattle.protocol.specs.Limits.{nodes_max}
use Rattle.line.specs.Frames.{Frame, Sized, is_sized}
use Rattle.line.specs.Conduct.{Conduct}
use Rattle.line.specs.Rule.{Rule, by_rule}
use Rattle.line.specs.Held.{content}
use Rattle.line.specs.declared.held.Held.{Held}
use Rattle.line.specs.declared.board.Board.{Board}

-- byte 2 of a frame is its sender's number
abbrev pub sender_of : Frame → ℕ
sender_of frame = slice_index frame 2

-- a frame is kept if it has the length of a frame and its sender is one of 1 to 16
abbrev pub Postable : Frame → Type 0
Postable frame = Sized frame × (1 ≤ sender_of frame) × (sender_of frame ≤ nodes_max)

-- the test for that
abbrev pub is_postable : Frame → Bool
is_postable frame = is_sized frame && (nat_le 1 (sender_of frame) && nat_le (sender_of frame) nodes_max)

-- what a board shows
pub record Shown : Type 0 where
  -- the latest frame of each sender
  pub latest : ℕ → Option Frame
  -- the sender of the frame that was last given, at first 0
  pub last : ℕ

-- an empty board
abbrev pub nothing_shown : Shown
nothing_shown = record { latest = λ n. None; last = 0 }

-- a frame that is put replaces the one of its sender
abbrev pub posted : (ℕ → Option Frame) → Frame → ℕ → Option Frame
posted latest frame n = cond (is_postable frame && n == sender_of frame) (Some frame) (latest n)

-- the sender after one in the round from 1 to 16
abbrev pub next_sender : ℕ → ℕ
next_sender n = n % nodes_max + 1

-- of so many senders after one, in the round, the first that has a frame
unfoldable pub first_after : (ℕ → Option Frame) → ℕ → ℕ → Option ℕ
first_after latest last zero = None
first_after latest last (suc n) = cond (is_some (latest (next_sender last))) (Some (next_sender last)) (first_after latest (next_sender last) n)

-- the sender whose turn it is
abbrev pub turn : Shown → Option ℕ
turn shown = first_after shown.latest shown.last nodes_max

-- the frames of so many senders above a number
unfoldable pub frames_above : (ℕ → Option Frame) → ℕ → ℕ → List Frame
frames_above latest from zero = []
frames_above latest from (suc n) = option_to_list (latest (suc from)) ++ frames_above latest (suc from) n

abbrev pub board_rule : Rule Shown
board_rule = record {
  waiting = λ shown. frames_above shown.latest 0 nodes_max;
  put = λ shown frame. record { latest = posted shown.latest frame; last = shown.last };
  gives = λ shown. option_and_then shown.latest (turn shown);
  left = λ shown. record { latest = shown.latest; last = unwrap_or (turn shown) shown.last };
}

-- the latest frame of a sender, if one was heard: that of sender 1 is in the first place
abbrev pub latest_in : List (Option Held) → ℕ → Option Frame
latest_in frames zero = None
latest_in frames (suc at) = option_map content (slice_index_or frames at None)

abbrev pub latest_of : Board → ℕ → Option Frame
latest_of board = latest_in board.frames

-- the place after a sender's has the sender's number
abbrev pub shows : Board → Shown
shows board = record { latest = latest_of board; last = board.next }

abbrev pub board_line : Conduct Board
board_line = by_rule shows board_rule

-- Frames as their bytes.
use Rattle.std.specs.Prelude.{◌≡◌, ℕ, ◌≤◌, Bool, ◌&&◌, ◌⊎◌, List, [], ◌∷◌, length, nat_le}
use Rattle.protocol.specs.Limits.{frame_bytes_min, frame_bytes_max}

abbrev pub Frame : Type 0
Frame = List ℕ

-- it has the length of a frame
abbrev pub Sized : Frame → Type 0
Sized frame = (frame_bytes_min ≤ length frame) × (length frame ≤ frame_bytes_max)

-- the test for that
abbrev pub is_sized : Frame → Bool
is_sized frame = nat_le frame_bytes_min (length frame) && nat_le (length frame) frame_bytes_max

-- it is one of a list
abbrev pub In : Frame → List Frame → Type 0
In frame [] = ⊥
In frame (x ∷ xs) = (frame ≡ x) ⊎ In frame xs

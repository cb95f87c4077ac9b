-- Parts of a memory, of which one was lent and changed.
use Rattle.std.specs.Prelude.{◌≡◌, ℕ, ◌+◌, ◌≤◌, List, length, take, drop}

-- so many cells from a place on
abbrev pub part : {X : Type 0} → ℕ → ℕ → List X → List X
part a n memory = take n (drop a memory)

-- the part of n cells from a on became `left`, and every part before it and after it is as it was
pub record PartBecame {X : Type 0} (a n : ℕ) (old new left : List X) : Type 0 where
  pub here : part a n new ≡ left
  pub lower : (b m : ℕ) → b + m ≤ a → part b m new ≡ part b m old
  pub higher : (b m : ℕ) → a + n ≤ b → part b m new ≡ part b m old
  pub long : length new ≡ length old

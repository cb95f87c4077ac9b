-- What storing a record, and emptying a place, change in a table.
use Rattle.std.specs.Prelude.{◌≡◌, ℕ, ◌<◌, cond, ◌⊎◌, List, length, Some, None, Option, ◌≢◌, slice_index_or}
use Rattle.std.specs.Borrow.{MutBor}
use Rattle.table.specs.Cells.{Keyed, under, place_of, Apart}

-- a place is there, and free
abbrev pub Free : {R : Type 0} → List (Option R) → ℕ → Type 0
Free cells i = (i < length cells) × (slice_index_or cells i None ≡ None)

-- a place may take a record with this key: it is the key's own, or free where the key stands nowhere
abbrev pub Takes : {R Key : Type 0} → Keyed R Key → List (Option R) → Key → ℕ → Type 0
Takes keyed cells k i = (place_of keyed cells k ≡ Some i) ⊎ ((under keyed cells k ≡ None) × Free cells i)

-- one key has another record, or none; every other key has what it had, and keys stay apart
pub record Written {R Key : Type 0} (keyed : Keyed R Key) (old new : List (Option R)) (k : Key) (held : Option R) : Type 0 where
  pub here : under keyed new k ≡ held
  pub others : (q : Key) → (q ≢ k) → under keyed new q ≡ under keyed old q
  pub apart : Apart keyed old → Apart keyed new

-- at the key's place, where keys are apart, nothing is left under the key
abbrev pub Emptied : {R Key : Type 0} → Keyed R Key → List (Option R) → List (Option R) → ℕ → Type 0
Emptied {R} {Key} keyed old new i = (k : Key) → Apart keyed old → place_of keyed old k ≡ Some i → Written keyed old new k None

-- nothing stands under any key
pub record Blank {R Key : Type 0} (keyed : Keyed R Key) (cells : List (Option R)) : Type 0 where
  pub none : (k : Key) → under keyed cells k ≡ None
  pub apart : Apart keyed cells

-- a lent memory is the same one, and as long
pub record Kept {X : Type 0} (old new : MutBor (List X)) : Type 0 where
  pub long : length new.now ≡ length old.now
  pub same : new.ghost_name ≡ old.ghost_name

-- a table with one key written
unfoldable pub write : {R Key A : Type 0} → Keyed R Key → (Key → A) → Key → A → Key → A
write keyed f k a q = cond (keyed.alike q k) a (f q)

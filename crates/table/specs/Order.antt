-- The least key above a given one.
use Rattle.std.specs.Prelude.{◌≡◌, ℕ, Bool, true, List, map, length, Some, None, Option, slice_index_or}
use Rattle.std.specs.List.{filter, flat_map, reduce}
use Rattle.std.specs.Option.{option_to_list}
use Rattle.std.specs.Ordering.{min_by_ordering}
use Rattle.table.specs.Cells.{Keyed, compared, under, place_of}

-- a key is above the last one; where there is none, every key is
abbrev pub above : {R Key : Type 0} → Keyed R Key → Option Key → Key → Bool
above keyed None k = true
above keyed (Some last) k = keyed.before last k

-- the keys of the records
abbrev pub keys : {R Key : Type 0} → Keyed R Key → List (Option R) → List Key
keys keyed cells = map keyed.key (flat_map option_to_list cells)

-- those above the last one
abbrev pub keys_above : {R Key : Type 0} → Keyed R Key → List (Option R) → Option Key → List Key
keys_above keyed cells last = filter (above keyed last) (keys keyed cells)

-- of two keys the lesser
abbrev pub lesser : {R Key : Type 0} → Keyed R Key → Key → Key → Key
lesser keyed a b = min_by_ordering (compared keyed a b) a b

-- the least key above the last one
abbrev pub least_above : {R Key : Type 0} → Keyed R Key → List (Option R) → Option Key → Option Key
least_above keyed cells last = reduce (lesser keyed) (keys_above keyed cells last)

-- the record at a place has the least key above the last one
pub record HasNext {R Key : Type 0} (keyed : Keyed R Key) (cells : List (Option R)) (last : Option Key) (i : ℕ) : Type 0 where
  pub found : R
  pub cell : slice_index_or cells i None ≡ Some found
  pub stands : place_of keyed cells (keyed.key found) ≡ Some i
  pub over : above keyed last (keyed.key found) ≡ true
  -- no record's key lies between
  pub least : (k : Key) → above keyed last k ≡ true → keyed.before k (keyed.key found) ≡ true → under keyed cells k ≡ None

-- the place of the least key above the last one, or none where no record's key is above
abbrev pub NextAbove : {R Key : Type 0} → Keyed R Key → List (Option R) → Option Key → Option ℕ → Type 0
NextAbove {R} {Key} keyed cells last None = (k : Key) → above keyed last k ≡ true → under keyed cells k ≡ None
NextAbove keyed cells last (Some i) = HasNext keyed cells last i

-- how many records have a key above the last one
abbrev pub left_above : {R Key : Type 0} → Keyed R Key → Option Key → List (Option R) → ℕ
left_above keyed last cells = length (keys_above keyed cells last)

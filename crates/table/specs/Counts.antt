-- How many cells are used, and how many keys.
use Rattle.std.specs.Prelude.{◌≡◌, ℕ, ◌+◌, Bool, true, List, Option, ◌≢◌}
use Rattle.std.specs.List.{count_by}
use Rattle.std.specs.Option.{is_none, is_some, option_len}
use Rattle.table.specs.Cells.{Keyed, under, Apart, Each}

-- how many cells hold a record
abbrev pub filled : {R : Type 0} → List (Option R) → ℕ
filled cells = count_by is_some cells

-- how many cells are free
abbrev pub free_in : {R : Type 0} → List (Option R) → ℕ
free_in cells = count_by is_none cells

-- a sum of a number for each key of a domain: of zeros it is 0, and it changes as the number of one key does
pub record Summing {Key : Type 0} (In : Key → Type 0) (sum : (Key → ℕ) → ℕ) : Type 0 where
  pub none : sum (λ _. 0) ≡ 0
  pub moved : (f g : Key → ℕ) (a : Key) → In a → ((q : Key) → (q ≢ a) → g q ≡ f q) → sum g + f a ≡ sum f + g a

-- so many keys have a record, in whatever way keys are summed, where keys are apart
abbrev pub UsedKeys : {R Key : Type 0} → Keyed R Key → List (Option R) → ℕ → Type 0
UsedKeys {R} {Key} keyed cells n = (domain : Key → Bool) (sum : (Key → ℕ) → ℕ) → Summing (λ k. domain k ≡ true) sum → Each (λ r. domain (keyed.key r) ≡ true) cells → Apart keyed cells → sum (λ k. option_len (under keyed cells k)) ≡ n

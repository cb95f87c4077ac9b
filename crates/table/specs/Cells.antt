-- What a row of cells holds, as a table by key.
use Rattle.std.specs.Prelude.{◌≡◌, ℕ, ◌<◌, Bool, true, false, cond, List, [], ◌∷◌, length, Some, None, Decides, IfSome, Option}
use Rattle.std.specs.List.{position}
use Rattle.std.specs.Option.{option_or, is_none}
use Rattle.std.specs.declared.cmp.Ordering.{Ordering}
use Rattle.std.specs.declared.cmp.Ordering.TheVariants.{Less, Equal, Greater}

-- records with a key: which key, whether two keys are one, and the order of keys
pub record Keyed (R Key : Type 0) : Type 0 where
  pub key : R → Key
  pub alike : Key → Key → Bool
  pub decides : (a b : Key) → Decides (alike a b) (a ≡ b)
  pub before : Key → Key → Bool
  pub irreflexive : (a : Key) → before a a ≡ false
  pub transitive : (a b c : Key) → before a b ≡ true → before b c ≡ true → before a c ≡ true
  -- of two keys one is before the other, or they are one
  pub connected : (a b : Key) → before a b ≡ false → before b a ≡ false → a ≡ b

-- how two keys compare
abbrev pub compared : {R Key : Type 0} → Keyed R Key → Key → Key → Ordering
compared keyed a b = cond (keyed.before a b) Less (cond (keyed.alike a b) Equal Greater)

-- a cell holds a record with this key
abbrev pub has : {R Key : Type 0} → Keyed R Key → Key → Option R → Bool
has keyed k None = false
has keyed k (Some r) = keyed.alike k (keyed.key r)

abbrev pub held_by : {R Key : Type 0} → Keyed R Key → Option R → (Key → Option R) → Key → Option R
held_by keyed None rest k = rest k
held_by keyed (Some r) rest k = cond (keyed.alike k (keyed.key r)) (Some r) (rest k)

-- what stands under a key: the record of the first cell that has it
unfoldable pub under : {R Key : Type 0} → Keyed R Key → List (Option R) → Key → Option R
under keyed [] k = None
under keyed (c ∷ cs) k = held_by keyed c (under keyed cs) k

-- the place of a key
abbrev pub place_of : {R Key : Type 0} → Keyed R Key → List (Option R) → Key → Option ℕ
place_of keyed cells k = position (has keyed k) cells

-- the first free place
abbrev pub first_free : {R : Type 0} → List (Option R) → Option ℕ
first_free cells = position is_none cells

-- the key's place, else the first free one
abbrev pub sought : {R Key : Type 0} → Keyed R Key → List (Option R) → Key → Option ℕ
sought keyed cells k = option_or (place_of keyed cells k) (first_free cells)

-- a place, if there is one, is among the cells
abbrev pub Within : {X : Type 0} → List X → Option ℕ → Type 0
Within cells place = IfSome place (λ i. i < length cells)

-- each key stands in one cell at most
abbrev pub Apart : {R Key : Type 0} → Keyed R Key → List (Option R) → Type 0
Apart keyed [] = Unit {0}
Apart keyed (None ∷ cs) = Apart keyed cs
Apart keyed (Some r ∷ cs) = (under keyed cs (keyed.key r) ≡ None) × Apart keyed cs

-- each record satisfies P
abbrev pub Each : {R : Type 0} → (R → Type 0) → List (Option R) → Type 0
Each P [] = Unit {0}
Each P (None ∷ cs) = Each P cs
Each P (Some r ∷ cs) = P r × Each P cs

-- a record that passes a test stays
abbrev pub keep : {R : Type 0} → (R → Bool) → Option R → Option R
keep test None = None
keep test (Some r) = cond (test r) (Some r) None

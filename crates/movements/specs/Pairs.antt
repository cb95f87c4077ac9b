-- Pairs of a key and a count: how two lists merge by key, which pairs are kept, and what goes to the rest.
use Rattle.std.specs.Prelude.{◌≡◌, ℕ, zero, suc, ◌+◌, ◌-◌, ◌^◌, ◌<◌, min, cond, List, [], ◌∷◌, Some, None, Option, ◌==◌, nat_lt}
use Rattle.movements.specs.declared.pair.Pair.{Pair}

-- a sum stops at 2 ^ 32 - 1
abbrev pub stop : ℕ → ℕ
stop n = min n (2 ^ 32 - 1)

abbrev pub unused : Pair
unused = record { key = 0; count = 0 }

abbrev pub Unused : Pair → Type 0
Unused p = (p.key ≡ 0) × (p.count ≡ 0)

abbrev pub Used : Pair → Type 0
Used p = (0 < p.key) × (0 < p.count)

-- two pairs of one key as one
abbrev pub both : Pair → Pair → Pair
both x y = record { key = x.key; count = stop (x.count + y.count) }

-- the pair of the smaller key, with both counts where the keys are equal
abbrev pub lesser : Pair → Pair → Pair
lesser x y = cond (nat_lt x.key y.key) x (cond (nat_lt y.key x.key) y (both x y))

-- the first pair of two lists as one, by the keys of their first pairs
abbrev pub least : Option Pair → Option Pair → Option Pair
least None y = y
least (Some x) None = Some x
least (Some x) (Some y) = Some (lesser x y)

-- what is left of a list when the pair of a key was taken
abbrev pub after : List Pair → ℕ → List Pair
after [] key = []
after (x ∷ xs) key = cond (x.key == key) xs (x ∷ xs)

-- x, and then what `more` gives, among the pairs of a list
unfoldable pub among : Pair → (List Pair → List Pair) → List Pair → List Pair
among x more [] = x ∷ more []
among x more (y ∷ ys) = cond (nat_lt x.key y.key) (x ∷ more (y ∷ ys)) (cond (nat_lt y.key x.key) (y ∷ among x more ys) (both x y ∷ more ys))

-- two lists with rising keys as one; the counts of equal keys are added
unfoldable pub merged : List Pair → List Pair → List Pair
merged [] = λ ys. ys
merged (x ∷ xs) = among x (merged xs)

-- the sum of the counts
abbrev pub total : List Pair → ℕ
total [] = 0
total (x ∷ xs) = x.count + total xs

-- the first n pairs, filled up with unused ones
abbrev pub filled : ℕ → List Pair → List Pair
filled zero xs = []
filled (suc n) [] = unused ∷ filled n []
filled (suc n) (x ∷ xs) = x ∷ filled n xs

-- the counts of the pairs after the first n
abbrev pub spilled : ℕ → List Pair → ℕ
spilled zero xs = total xs
spilled (suc n) [] = 0
spilled (suc n) (x ∷ xs) = spilled n xs

-- the pairs before the first unused one
abbrev pub used : List Pair → List Pair
used [] = []
used (p ∷ ps) = cond (p.key == 0) [] (p ∷ used ps)

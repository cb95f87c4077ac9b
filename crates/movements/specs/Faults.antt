-- What is wrong with a pair, and the first fault of a list of pairs.
use Rattle.std.specs.Prelude.{◌≡◌, ℕ, ◌+◌, ◌^◌, ◌<◌, false, cond, List, [], ◌∷◌, is_some, Some, None, Option, Ok, Err, Result, ◌==◌, nat_lt, slice_index_or}
use Rattle.movements.specs.declared.fault.PairFault.{PairFault}
use Rattle.movements.specs.declared.fault.PairFault.TheVariants.{HalfUsed, AfterUnused, NotRising}
use Rattle.movements.specs.declared.fault.UnknownFault.{UnknownFault}
use Rattle.movements.specs.declared.pair.Pair.{Pair}
use Rattle.movements.specs.Pairs.{unused}

-- the number that a reader reports
abbrev pub number : PairFault → ℕ
number HalfUsed = 40
number AfterUnused = 41
number NotRising = 42

-- a number is read as the fault that has it, and refused where none has
abbrev pub Numbered : ℕ → Result PairFault UnknownFault → Type 0
Numbered n (Ok fault) = n ≡ number fault
Numbered n (Err unknown) = (unknown.0 ≡ n) × ((fault : PairFault) → n ≡ number fault → ⊥)

-- what is wrong with a used pair that stands after another, or first
abbrev pub used_fault : Pair → Option Pair → Option PairFault
used_fault p None = None
used_fault p (Some last) = cond (last.key == 0) (Some AfterUnused) (cond (nat_lt last.key p.key) None (Some NotRising))

-- what is wrong with a pair that stands after another, or first: its count is zero exactly when its key is
abbrev pub fault_of : Pair → Option Pair → Option PairFault
fault_of p before =
    cond (p.key == 0)
    (cond (p.count == 0) None (Some HalfUsed))
    (cond (p.count == 0) (Some HalfUsed) (used_fault p before))

-- a fault with the number of the pair that has it, counted from 0
pub record Found : Type 0 where
  pub pair : ℕ
  pub fault : PairFault

-- the fault of pair i, else what the pairs after it have
abbrev pub or_later : ℕ → Option PairFault → Option Found → Option Found
or_later i None later = later
or_later i (Some f) later = Some (record { pair = i; fault = f })

-- the first fault of pairs of which the first is pair i
unfoldable pub first_from : ℕ → Option Pair → List Pair → Option Found
first_from i before [] = None
first_from i before (p ∷ ps) = or_later i (fault_of p before) (first_from (i + 1) (Some p) ps)

abbrev pub first_fault : List Pair → Option Found
first_fault ps = first_from 0 None ps

-- keys and counts fit four bytes
abbrev pub Small : List Pair → Type 0
Small ps = (i : ℕ) → ((slice_index_or ps i unused).key < 2 ^ 32) × ((slice_index_or ps i unused).count < 2 ^ 32)

-- used pairs come first, with rising keys and counts of at least 1, and unused pairs are zeros
abbrev pub Faultless : List Pair → Type 0
Faultless ps = is_some (first_fault ps) ≡ false

-- How many cells are used, how many are free, and how many keys have a record.
use Rattle.std.proofs.Common.{◌≡◌, ℕ, zero, suc, ◌+◌, ◌<◌, cond, List, [], ◌∷◌, length, get_or, set, replicate, Some, None, Option, sym, refl, ◌∙◌, arith}
use Rattle.std.specs.Option.{is_none, is_some, option_len}
use Rattle.std.proofs.lemmas.List.Sums.{sum_by-cons}
use Rattle.std.proofs.lemmas.Option.{none-some}
use Rattle.table.specs.Cells.{Keyed, under, first_free, Apart, Each}
use Rattle.table.specs.Changes.{Free}
use Rattle.table.specs.Counts.{filled, free_in, Summing, UsedKeys}
use Rattle.table.proofs.First.{position_cons, first_gone}
use Rattle.table.proofs.Rows.{alike_off, alike_same}

filled_cons : {R : Type 0} (c : Option R) (cs : List (Option R)) → filled (c ∷ cs) ≡ option_len c + filled cs
filled_cons None cs = sum_by-cons (λ c. cond (is_some c) 1 0) None cs
filled_cons (Some r) cs = sum_by-cons (λ c. cond (is_some c) 1 0) (Some r) cs

pub free_filled : {R : Type 0} (cells : List (Option R)) → free_in cells + filled cells ≡ length cells
free_filled [] = refl
free_filled (None ∷ cs) = omega (arith, free_filled cs, filled_cons None cs, sum_by-cons (λ c. cond (is_none c) 1 0) None cs)
free_filled (Some r ∷ cs) = omega (arith, free_filled cs, filled_cons (Some r) cs, sum_by-cons (λ c. cond (is_none c) 1 0) (Some r) cs)

-- no place is free where all are used
pub filled_full : {R : Type 0} (cells : List (Option R)) → None ≡ first_free cells → filled cells ≡ length cells
filled_full [] e = refl
filled_full (None ∷ cs) e = absurd (none-some 0 (e ∙ position_cons is_none None cs))
filled_full (Some r ∷ cs) e = omega (arith, filled_full cs (sym (first_gone is_none (Some r) cs (sym e)).1), filled_cons (Some r) cs)

-- a free place is not used
pub filled_below : {R : Type 0} (cells : List (Option R)) (i : ℕ) → Free cells i → filled cells < length cells
filled_below [] i h = absurd (omega arith)
filled_below (None ∷ cs) zero h = omega (arith, free_filled cs, filled_cons None cs)
filled_below (Some r ∷ cs) zero h = absurd (none-some r (sym h.1))
filled_below (None ∷ cs) (suc i) h = omega (arith, filled_cons None cs, filled_below cs i (omega (arith, h.0), h.1))
filled_below (Some r ∷ cs) (suc i) h = omega (arith, filled_cons (Some r) cs, filled_below cs i (omega (arith, h.0), h.1))

pub filled_cleared : (R : Type 0) (n : ℕ) → filled {R = R} (replicate n None) ≡ 0
filled_cleared R zero = refl
filled_cleared R (suc n) = omega (arith, filled_cleared R n, filled_cons {R = R} None (replicate n None))

-- a cell that takes another content
pub filled_set : {R : Type 0} (cells : List (Option R)) (i : ℕ) (c : Option R) → i < length cells → filled (set cells i c) + option_len (get_or cells i None) ≡ filled cells + option_len c
filled_set [] i c h = absurd (omega arith)
filled_set (x ∷ cs) zero c h = omega (arith, filled_cons x cs, filled_cons c cs)
filled_set (x ∷ cs) (suc i) c h = omega (arith, filled_set cs i c (omega arith), filled_cons x cs, filled_cons x (set cs i c))

module _ {R Key : Type 0} (keyed : Keyed R Key) where
  -- as many keys have a record as cells are used
  pub used_filled : (In : Key → Type 0) (sum : (Key → ℕ) → ℕ) → Summing In sum → (cells : List (Option R)) → Each (λ r. In (keyed.key r)) cells → Apart keyed cells → sum (λ k. option_len (under keyed cells k)) ≡ filled cells
  unfolding under
  used_filled In sum s [] w a = s.none
  used_filled In sum s (None ∷ cs) w a = omega (arith, used_filled In sum s cs w a, filled_cons None cs)
  used_filled In sum s (Some x ∷ cs) w a =
      let ih = used_filled In sum s cs w.1 a.1 in
      let moved = s.moved (λ k. option_len (under keyed cs k)) (λ k. option_len (under keyed (Some x ∷ cs) k)) (keyed.key x) w.0 (λ q d. rw (alike_off keyed q (keyed.key x) d)) in
      let old : option_len (under keyed cs (keyed.key x)) ≡ 0 = rw a.0 in
      let new : option_len (under keyed (Some x ∷ cs) (keyed.key x)) ≡ 1 = rw (alike_same keyed (keyed.key x)) in
      omega (arith, ih, moved, old, new, filled_cons (Some x) cs)

  pub used_keys : (cells : List (Option R)) → UsedKeys keyed cells (filled cells)
  used_keys cells domain sum s w a = used_filled _ sum s cells w a

-- Places by number.
use Rattle.std.proofs.Common.{◌≡◌, ℕ, zero, suc, ◌+◌, ◌-◌, ◌<◌, ◌≤◌, ◌⊎◌, List, ◌∷◌, length, get_or, set, Some, None, Option, sym, refl, ap, ◌∙◌, ⊎_elim, arith}
use mathlib.Core.Path.{fun_ext}
use Rattle.std.proofs.lemmas.List.{get_or-set_same, get_or-set_other}
use Rattle.std.proofs.Math.ListN.{get_or-eq_default}
use Rattle.std.proofs.lemmas.Bool.{cases_eq, cases_lt}
use Rattle.handoff.specs.Node.{put}
use Rattle.handoff.proofs.Base.{put_here, put_off}
use Rattle.node.specs.Seen.{by_number}

pub place_read : {A : Type 0} (places : List (Option A)) (k i : ℕ) → i + 1 ≡ k → get_or places i None ≡ by_number places k
unfolding by_number
place_read places k i e = ap (λ n. get_or (None ∷ places) n None) e'
  where
    e' : suc i ≡ k
    e' = omega arith

at_zero : {A : Type 0} (places : List (Option A)) → by_number places 0 ≡ None
unfolding by_number
at_zero places = refl

-- past the places there is none
pub place_past : {A : Type 0} (places : List (Option A)) (k i : ℕ) → i + 1 ≡ k → length places ≤ i → None ≡ by_number places k
place_past places k i e h = sym (get_or-eq_default places None h) ∙ place_read places k i e

-- p is the number as the code has it
pub place_none : {A : Type 0} (places : List (Option A)) (k p n : ℕ) → p ≡ k → length places ≤ n → (p ≡ 0) ⊎ ((p ≡ 0 → ⊥) × (n < p)) → None ≡ by_number places k
place_none places k p n e long out = ⊎_elim
    (λ (z : p ≡ 0). let none : k ≡ 0 = omega arith in sym (ap (by_number places) none ∙ at_zero places))
    (λ (h : (p ≡ 0 → ⊥) × (n < p)). place_past places k (k - 1) (omega arith) (omega arith))
    out

-- where there is one, there is a place
pub place_there : {A : Type 0} (places : List (Option A)) (k : ℕ) (x : A) → Some x ≡ by_number places k → (1 ≤ k) × (k ≤ length places)
place_there places zero x e = let none : Some x ≡ None = e ∙ at_zero places in cc
place_there places (suc i) x e = ⊎_elim
    (λ (h : i < length places). (omega arith, omega arith))
    (λ (h : length places ≤ i). let none : Some x ≡ None = e ∙ sym (place_past places (suc i) i (omega arith) h) in cc)
    (cases_lt i (length places))

pub place_written : {A : Type 0} (places : List (Option A)) (k i : ℕ) (a : Option A) → i + 1 ≡ k → i < length places → by_number (set places i a) ≡ put (by_number places) k a
place_written {A} places k i a e h = fun_ext each
  where
    each : (q : ℕ) → by_number (set places i a) q ≡ put (by_number places) k a q
    each zero = at_zero (set places i a) ∙ sym (at_zero places) ∙ sym (put_off (by_number places) k a 0 (λ z. omega arith))
    each (suc q) = ⊎_elim
        (λ (s : q ≡ i). sym (place_read (set places i a) (suc q) q (omega arith)) ∙ ap (λ z. get_or (set places i a) z None) s ∙ get_or-set_same places i a None h ∙ sym (put_here (by_number places) k a) ∙ ap (put (by_number places) k a) (omega arith))
        (λ (d : q ≡ i → ⊥). sym (place_read (set places i a) (suc q) q (omega arith)) ∙ get_or-set_other places i q a None d ∙ place_read places (suc q) q (omega arith) ∙ sym (put_off (by_number places) k a (suc q) (λ z. d (omega arith))))
        (cases_eq q i)

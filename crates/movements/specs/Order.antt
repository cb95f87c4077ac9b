-- Pairs have no fault exactly when the used ones come first, with rising keys, and the others are unused.
use Rattle.std.specs.Prelude.{◌≡◌, ℕ, zero, suc, ◌+◌, ◌<◌, true, false, ltb, ◌⊎◌, List, [], ◌∷◌, length, take, is_some, Some, None, Option, ◌==◌, nat_eq, nat_lt, refl}
use Rattle.std.proofs.Common.{ap, ◌∙◌, inl, inr, ⊎_elim, arith}
use Rattle.std.proofs.lemmas.Bool.{lt-ltb, ltb-true, eqb-true, eqb-false, eq-eqb, ne_eqb, true≢false, cases_Bool}
use Rattle.movements.specs.declared.fault.PairFault.{PairFault}
use Rattle.movements.specs.declared.pair.Pair.{Pair}
use Rattle.movements.specs.Pairs.{unused, Unused, filled, used}
use Rattle.movements.specs.Merging.{Rising, pair_same}
use Rattle.movements.specs.Faults.{Found, used_fault, fault_of, or_later, first_from, Small}

-- a used pair may follow: the pair before is used, or there is none
abbrev pub UsedSoFar : Option Pair → Type 0
UsedSoFar None = Unit {0}
UsedSoFar (Some last) = 0 < last.key

-- its key is above this
abbrev pub key_before : Option Pair → ℕ
key_before None = 0
key_before (Some last) = last.key

-- a used pair that may stand there
abbrev pub Follows : Option Pair → Pair → Type 0
Follows before p = UsedSoFar before × (key_before before < p.key) × (0 < p.count)

rises_after : (p : Pair) (before : Option Pair) → 0 < p.key → used_fault p before ≡ None → UsedSoFar before × (key_before before < p.key)
rises_after p None k e = (tt, k)
rises_after p (Some last) k e =
    ⊎_elim (λ (z : nat_eq last.key 0 ≡ true). absurd (true≢false (ap is_some (rw z at e))))
    (λ (z : nat_eq last.key 0 ≡ false).
    ⊎_elim (λ (t : ltb last.key p.key ≡ true). (omega (arith, eqb-false last.key 0 z), ltb-true last.key p.key t))
    (λ (t : ltb last.key p.key ≡ false). absurd (true≢false (ap is_some (rw (z, t) at e))))
    (cases_Bool (nat_lt last.key p.key)))
    (cases_Bool (last.key == 0))

-- a pair with no fault is unused, or one that may follow
pub right_pair : (p : Pair) (before : Option Pair) → fault_of p before ≡ None → Unused p ⊎ Follows before p
right_pair p before e =
    ⊎_elim (λ (k : nat_eq p.key 0 ≡ true).
    ⊎_elim (λ (c : nat_eq p.count 0 ≡ true). inl (eqb-true p.key 0 k, eqb-true p.count 0 c))
    (λ (c : nat_eq p.count 0 ≡ false). absurd (true≢false (ap is_some (rw (k, c) at e))))
    (cases_Bool (p.count == 0)))
    (λ (k : nat_eq p.key 0 ≡ false).
    ⊎_elim (λ (c : nat_eq p.count 0 ≡ true). absurd (true≢false (ap is_some (rw (k, c) at e))))
    (λ (c : nat_eq p.count 0 ≡ false).
    let r = rises_after p before (omega (arith, eqb-false p.key 0 k)) (rw (k, c) at e) in
    inr (r.0, r.1, omega (arith, eqb-false p.count 0 c)))
    (cases_Bool (p.count == 0)))
    (cases_Bool (p.key == 0))

pub right_unused : (p : Pair) (before : Option Pair) → Unused p → fault_of p before ≡ None
right_unused p before u = rw (eq-eqb p.key 0 u.0, eq-eqb p.count 0 u.1)

pub right_used : (p : Pair) (before : Option Pair) → Follows before p → fault_of p before ≡ None
right_used p None f = rw (ne_eqb p.key 0 (omega arith), ne_eqb p.count 0 (omega arith))
right_used p (Some last) f = rw (ne_eqb p.key 0 (omega arith), ne_eqb p.count 0 (omega arith), ne_eqb last.key 0 (omega arith), lt-ltb last.key p.key f.1)

-- pairs from pair i on have no fault
abbrev Right : ℕ → Option Pair → List Pair → Type 0
Right i before ps = is_some (first_from i before ps) ≡ false

no_later : (i : ℕ) (f : Option PairFault) (later : Option Found) → is_some (or_later i f later) ≡ false → (f ≡ None) × (is_some later ≡ false)
no_later i None later e = (refl, e)
no_later i (Some f) later e = absurd (true≢false e)

head_tail : (i : ℕ) (before : Option Pair) (p : Pair) (ps : List Pair) → Right i before (p ∷ ps) → (fault_of p before ≡ None) × Right (i + 1) (Some p) ps
unfolding first_from
head_tail i before p ps e = no_later i (fault_of p before) _ e

one_more : (i : ℕ) (before : Option Pair) (p : Pair) (ps : List Pair) → fault_of p before ≡ None → Right (i + 1) (Some p) ps → Right i before (p ∷ ps)
unfolding first_from
one_more i before p ps e r = ap (λ f. is_some (or_later i f (first_from (i + 1) (Some p) ps))) e ∙ r

pub used_none : (p : Pair) (ps : List Pair) → p.key ≡ 0 → used (p ∷ ps) ≡ []
used_none p ps e = rw (eq-eqb p.key 0 e)

used_some : (p : Pair) (ps : List Pair) → 0 < p.key → used (p ∷ ps) ≡ p ∷ used ps
used_some p ps h = rw (ne_eqb p.key 0 (omega arith))

-- after an unused pair all are unused
all_unused : (i : ℕ) (last : Pair) (ps : List Pair) → last.key ≡ 0 → Right i (Some last) ps → ps ≡ filled (length ps) []
all_unused i last [] z r = refl
all_unused i last (p ∷ ps) z r =
    let t = head_tail i (Some last) p ps r in
    ⊎_elim (λ (u : Unused p). let a = pair_same p unused u.0 u.1 in let b = all_unused (i + 1) p ps u.0 t.1 in cc)
    (λ (f : Follows (Some last) p). absurd (omega (arith, f.0)))
    (right_pair p (Some last) t.0)

pub used_rising : (i : ℕ) (before : Option Pair) (ps : List Pair) → Small ps → Right i before ps → Rising (key_before before) (used ps)
used_rising i before [] s r = tt
used_rising i before (p ∷ ps) s r =
    let t = head_tail i before p ps r in
    ⊎_elim (λ (u : Unused p). rw (used_none p ps u.0) tt)
    (λ (f : Follows before p). rw (used_some p ps (omega arith)) (f.1, f.2, (s 0).0, (s 0).1, used_rising (i + 1) (Some p) ps (λ k. s (suc k)) t.1))
    (right_pair p before t.0)

pub filled_used : (i : ℕ) (before : Option Pair) (ps : List Pair) → Right i before ps → filled (length ps) (used ps) ≡ ps
filled_used i before [] r = refl
filled_used i before (p ∷ ps) r =
    let t = head_tail i before p ps r in
    ⊎_elim (λ (u : Unused p). let a = pair_same p unused u.0 u.1 in let b = all_unused (i + 1) p ps u.0 t.1 in rw (used_none p ps u.0) (cc))
    (λ (f : Follows before p). rw (used_some p ps (omega arith)) (ap (λ qs. p ∷ qs) (filled_used (i + 1) (Some p) ps t.1)))
    (right_pair p before t.0)

right_blank : (n i : ℕ) (before : Option Pair) → Right i before (filled n [])
unfolding first_from
right_blank zero i before = refl
right_blank (suc n) i before = one_more i before unused (filled n []) (right_unused unused before (refl, refl)) (right_blank n (i + 1) (Some unused))

pub right_filled : (n i : ℕ) (before : Option Pair) (xs : List Pair) → UsedSoFar before → Rising (key_before before) xs → Right i before (filled n xs)
unfolding first_from
right_filled zero i before xs u r = refl
right_filled (suc n) i before [] u r = right_blank (suc n) i before
right_filled (suc n) i before (x ∷ xs) u r = one_more i before x (filled n xs) (right_used x before (u, r.0, r.1)) (right_filled n (i + 1) (Some x) xs (omega arith) r.4)

pub used_filled : (n l : ℕ) (xs : List Pair) → Rising l xs → used (filled n xs) ≡ take n xs
used_filled zero l xs r = refl
used_filled (suc n) l [] r = refl
used_filled (suc n) l (x ∷ xs) r = used_some x (filled n xs) (omega arith) ∙ ap (λ ys. x ∷ ys) (used_filled n x.key xs r.4)

pub length_filled : (n : ℕ) (xs : List Pair) → length (filled n xs) ≡ n
length_filled zero xs = refl
length_filled (suc n) [] = ap suc (length_filled n [])
length_filled (suc n) (x ∷ xs) = ap suc (length_filled n xs)

pub small_filled : (n l : ℕ) (xs : List Pair) → Rising l xs → Small (filled n xs)
small_filled zero l xs r i = (omega arith, omega arith)
small_filled (suc n) l [] r zero = (omega arith, omega arith)
small_filled (suc n) l [] r (suc i) = small_filled n l [] r i
small_filled (suc n) l (x ∷ xs) r zero = (r.2, r.3)
small_filled (suc n) l (x ∷ xs) r (suc i) = small_filled n x.key xs r.4 i

pub filled_blank : (n : ℕ) (xs : List Pair) → Rising 0 xs → filled (suc n) xs ≡ filled (suc n) [] → xs ≡ []
filled_blank n [] r e = refl
filled_blank n (x ∷ xs) r e = let p : x ≡ unused = cc in absurd (omega (arith, r.0, ap (λ v. v.key) p))

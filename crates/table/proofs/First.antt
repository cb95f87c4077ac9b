-- The first cell that passes a test.
use Rattle.std.proofs.Common.{◌≡◌, ℕ, suc, ◌+◌, Bool, true, false, cond, ◌⊎◌, List, ◌∷◌, length, nat_lt, Some, None, Option, sym, refl, ap, ◌∙◌, inl, inr, ⊎_elim, arith}
use Rattle.std.specs.List.{position, position_or_len}
use Rattle.std.specs.Option.{option_map}
use Rattle.std.proofs.lemmas.Bool.{cases_Bool, ltb-true, ltb-false, lt-ltb, le-ltb}
use Rattle.std.proofs.lemmas.Option.{none-some}

within : (i n : ℕ) → cond (nat_lt (1 + i) (suc n)) (Some (1 + i)) None ≡ option_map suc (cond (nat_lt i n) (Some i) None)
within i n = ⊎_elim
    (λ (t : nat_lt i n ≡ true). let e : 1 + i ≡ suc i = omega arith in rw (t, lt-ltb (1 + i) (suc n) (omega (arith, ltb-true i n t))) (ap Some e))
    (λ (f : nat_lt i n ≡ false). rw (f, le-ltb (1 + i) (suc n) (omega (arith, ltb-false i n f))))
    (cases_Bool (nat_lt i n))

-- the first cell that passes is the head, or stands further on
pub position_cons : {C : Type 0} (test : C → Bool) (c : C) (cs : List C) → position test (c ∷ cs) ≡ cond (test c) (Some 0) (option_map suc (position test cs))
position_cons test c cs = ⊎_elim
    (λ (t : test c ≡ true). rw (t, lt-ltb 0 (suc (length cs)) (omega arith)))
    (λ (f : test c ≡ false). rw f (within (position_or_len test cs) (length cs)))
    (cases_Bool (test c))

pub first_cases : {C : Type 0} (test : C → Bool) (c : C) (cs : List C) (i : ℕ) → position test (c ∷ cs) ≡ Some i → ((test c ≡ true) × (i ≡ 0)) ⊎ ((test c ≡ false) × ((j : ℕ) × (position test cs ≡ Some j) × (i ≡ suc j)))
first_cases test c cs i e = by (test c) (position test cs) (sym (position_cons test c cs) ∙ e)
  where
    by : (b : Bool) (o : Option ℕ) → cond b (Some 0) (option_map suc o) ≡ Some i → ((b ≡ true) × (i ≡ 0)) ⊎ ((b ≡ false) × ((j : ℕ) × (o ≡ Some j) × (i ≡ suc j)))
    by true o h = let z : 0 ≡ i = cc in inl (refl, sym z)
    by false None h = absurd (none-some i h)
    by false (Some j) h = let z : suc j ≡ i = cc in inr (refl, (j, refl, sym z))

-- where none passes, the head does not, and none further on
pub first_gone : {C : Type 0} (test : C → Bool) (c : C) (cs : List C) → position test (c ∷ cs) ≡ None → (test c ≡ false) × (position test cs ≡ None)
first_gone test c cs e = by (test c) (position test cs) (sym (position_cons test c cs) ∙ e)
  where
    by : (b : Bool) (o : Option ℕ) → cond b (Some 0) (option_map suc o) ≡ None → (b ≡ false) × (o ≡ None)
    by true o h = absurd (none-some 0 (sym h))
    by false None h = (refl, refl)
    by false (Some j) h = absurd (none-some (suc j) (sym h))

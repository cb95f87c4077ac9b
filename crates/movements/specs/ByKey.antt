-- What a join is in words: the count of each key, and the rest.
use Rattle.std.specs.Prelude.{◌≡◌, ℕ, zero, suc, ◌+◌, ◌<◌, ◌≤◌, Bool, true, false, cond, ◌⊎◌, List, [], ◌∷◌, length, take, nat_lt, slice_index_or, refl}
use Rattle.std.proofs.Common.{sym, ap, ap₂, subst, ◌∙◌, inl, inr, ⊎_elim, arith}
use Rattle.std.proofs.lemmas.Bool.{lt-ltb, cases_Bool, cases_order}
use Rattle.movements.specs.declared.pair.Pair.{Pair}
use Rattle.movements.specs.declared.kept.Movements.{Movements}
use Rattle.movements.specs.Pairs.{stop, unused, total, spilled}
use Rattle.movements.specs.Merging.{Rising, Merge, none, only, left, right, same, merges, count_at, at_merged, at_low, at_head, at_tail}
use Rattle.movements.specs.Join.{uses, join, all_pairs, all_rise, uses_join}

-- a key has a count
abbrev pub has : List Pair → ℕ → Bool
has zs k = nat_lt 0 (count_at k zs)

-- the counts of the pairs whose keys a list has not
abbrev pub left_out : List Pair → List Pair → ℕ
left_out zs [] = 0
left_out zs (x ∷ xs) = cond (has zs x.key) 0 x.count + left_out zs xs

-- all keys of a list are below k
abbrev pub Below : ℕ → List Pair → Type 0
Below k zs = (i : ℕ) → i < length zs → (slice_index_or zs i unused).key < k

-- z is the join of x and y
pub record ByKey (x y z : Movements) : Type 0 where
  -- each key has the sum of its counts, or it is left out and sixteen smaller keys are kept
  pub counts : (k : ℕ) → (count_at k (uses z) ≡ stop (count_at k (uses x) + count_at k (uses y))) ⊎ ((count_at k (uses z) ≡ 0) × (length (uses z) ≡ 16) × Below k (uses z))
  -- the rest is both rests and the counts of all keys that are left out
  pub others : z.rest ≡ stop (x.rest + y.rest + left_out (uses z) (uses x) + left_out (uses z) (uses y))

left_out_merge : {xs ys zs : List Pair} (ks : List Pair) → Merge xs ys zs → stop (left_out ks zs) ≡ stop (left_out ks xs + left_out ks ys)
left_out_merge ks none = omega arith
left_out_merge ks (only r) = omega (arith, left_out_merge ks r)
left_out_merge ks (left h r) = omega (arith, left_out_merge ks r)
left_out_merge ks (right h r) = omega (arith, left_out_merge ks r)
left_out_merge ks (same {x} {y} h r) =
    let e : has ks x.key ≡ has ks y.key = ap (has ks) h in
    ⊎_elim (λ (t : has ks x.key ≡ true). rw (t, sym e ∙ t) (omega (arith, left_out_merge ks r)))
    (λ (t : has ks x.key ≡ false). rw (t, sym e ∙ t) (omega (arith, left_out_merge ks r)))
    (cases_Bool (has ks x.key))

left_out_none : (xs : List Pair) → left_out [] xs ≡ total xs
unfolding count_at
left_out_none [] = refl
left_out_none (x ∷ xs) = omega (arith, left_out_none xs)

left_out_cons : (l : ℕ) (x : Pair) (zs xs : List Pair) → x.key ≤ l → Rising l xs → left_out (x ∷ zs) xs ≡ left_out zs xs
left_out_cons l x zs [] h r = refl
left_out_cons l x zs (y ∷ xs) h r =
    let e = at_tail y.key x zs (omega arith) in
    ap₂ (λ n m. cond (nat_lt 0 n) 0 y.count + m) e (left_out_cons y.key x zs xs (omega arith) r.4)

rising_take : (n l : ℕ) (xs : List Pair) → Rising l xs → Rising l (take n xs)
rising_take zero l xs r = tt
rising_take (suc n) l [] r = tt
rising_take (suc n) l (x ∷ xs) r = (r.0, r.1, r.2, r.3, rising_take n x.key xs r.4)

left_out_take : (n l : ℕ) (xs : List Pair) → Rising l xs → left_out (take n xs) xs ≡ spilled n xs
left_out_take zero l xs r = left_out_none xs
left_out_take (suc n) l [] r = refl
left_out_take (suc n) l (x ∷ xs) r =
    let e = at_head x (take n xs) l (rising_take (suc n) l (x ∷ xs) r) in
    let t = lt-ltb 0 (count_at x.key (x ∷ take n xs)) (omega arith) in
    rw t (omega (arith, left_out_cons x.key x (take n xs) xs (omega arith) r.4, left_out_take n x.key xs r.4))

below_cons : (k : ℕ) (x : Pair) (zs : List Pair) → x.key < k → Below k zs → Below k (x ∷ zs)
below_cons k x zs h b zero l = h
below_cons k x zs h b (suc i) l = b i (omega arith)

-- a key's count stays among the first n, or n smaller keys do
abbrev Stays : ℕ → ℕ → ℕ → List Pair → Type 0
Stays n k m zs = (count_at k zs ≡ m) ⊎ ((count_at k zs ≡ 0) × (length zs ≡ n) × Below k zs)

at_take : (n l k : ℕ) (xs : List Pair) → Rising l xs → Stays n k (count_at k xs) (take n xs)
at_take zero l k xs r = inr (at_low k k [] (omega arith) tt, refl, λ i h. absurd (omega arith))
at_take (suc n) l k [] r = inl refl
at_take (suc n) l k (x ∷ xs) r =
    let t = rising_take (suc n) l (x ∷ xs) r in
    ⊎_elim (λ (e : x.key ≡ k). inl (ap (λ j. count_at j (x ∷ take n xs)) (sym e) ∙ at_head x (take n xs) l t ∙ sym (at_head x xs l r) ∙ ap (λ j. count_at j (x ∷ xs)) e))
    (⊎_elim (λ (h : x.key < k).
    let d = at_tail k x (take n xs) (omega arith) in
    ⊎_elim (λ (e : count_at k (take n xs) ≡ count_at k xs). inl (d ∙ e ∙ sym (at_tail k x xs (omega arith))))
    (λ (e : (count_at k (take n xs) ≡ 0) × (length (take n xs) ≡ n) × Below k (take n xs)). inr (d ∙ e.0, ap suc e.1, below_cons k x (take n xs) h e.2))
    (at_take n x.key k xs r.4))
    (λ (h : k < x.key). inl (at_low k k (x ∷ take n xs) (omega arith) (h, t.1, t.2, t.3, t.4) ∙ sym (at_low k k (x ∷ xs) (omega arith) (h, r.1, r.2, r.3, r.4)))))
    (cases_order x.key k)

pub join_by_key : (x y : Movements) → ByKey x y (join x y)
join_by_key x y =
    let m = all_pairs x y in
    let r = all_rise x y in
    let u = uses_join x y in
    record {
      counts = λ k. subst (Stays 16 k (stop (count_at k (uses x) + count_at k (uses y)))) (sym u) (subst (λ n. Stays 16 k n (take 16 m)) (at_merged k (uses x) (uses y)) (at_take 16 0 k m r));
      others = omega (arith, left_out_take 16 0 m r, left_out_merge (take 16 m) (merges (uses x) (uses y)), ap (λ zs. left_out zs (uses x)) u, ap (λ zs. left_out zs (uses y)) u);
    }

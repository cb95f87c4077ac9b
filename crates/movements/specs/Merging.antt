-- The laws of merging two lists of pairs by key.
use Rattle.std.specs.Prelude.{◌≡◌, ℕ, zero, suc, ◌+◌, ◌^◌, ◌<◌, ◌≤◌, cond, List, [], ◌∷◌, take, ◌==◌, ◌≢◌, refl}
use Rattle.std.proofs.Common.{sym, ap, ◌∙◌, ⊎_elim, arith}
use Rattle.std.proofs.lemmas.Bool.{lt-ltb, le-ltb, eq-eqb, ne_eqb, cases_order, cases_eq}
use Rattle.movements.specs.declared.pair.Pair.{Pair}
use Rattle.movements.specs.Pairs.{stop, both, among, merged, total, filled, spilled}

-- how two lists come together, head by head
pub data Merge : List Pair → List Pair → List Pair → Type 0 where
  none : {ys : List Pair} → Merge [] ys ys
  only : {x : Pair} {xs zs : List Pair} → Merge xs [] zs → Merge (x ∷ xs) [] (x ∷ zs)
  left : {x y : Pair} {xs ys zs : List Pair} → x.key < y.key → Merge xs (y ∷ ys) zs → Merge (x ∷ xs) (y ∷ ys) (x ∷ zs)
  right : {x y : Pair} {xs ys zs : List Pair} → y.key < x.key → Merge (x ∷ xs) ys zs → Merge (x ∷ xs) (y ∷ ys) (y ∷ zs)
  same : {x y : Pair} {xs ys zs : List Pair} → x.key ≡ y.key → Merge xs ys zs → Merge (x ∷ xs) (y ∷ ys) (both x y ∷ zs)

pub merged_left : (x y : Pair) (xs ys : List Pair) → x.key < y.key → merged (x ∷ xs) (y ∷ ys) ≡ x ∷ merged xs (y ∷ ys)
unfolding merged among
merged_left x y xs ys h = rw (lt-ltb x.key y.key h)

pub merged_right : (x y : Pair) (xs ys : List Pair) → y.key < x.key → merged (x ∷ xs) (y ∷ ys) ≡ y ∷ merged (x ∷ xs) ys
unfolding merged among
merged_right x y xs ys h = let k : y.key ≤ x.key = omega arith in rw (le-ltb x.key y.key k, lt-ltb y.key x.key h)

pub merged_same : (x y : Pair) (xs ys : List Pair) → x.key ≡ y.key → merged (x ∷ xs) (y ∷ ys) ≡ both x y ∷ merged xs ys
unfolding merged among
merged_same x y xs ys e =
    let h : y.key ≤ x.key = omega arith in
    let k : x.key ≤ y.key = omega arith in
    rw (le-ltb x.key y.key h, le-ltb y.key x.key k)

pub merged_none : (ys : List Pair) → merged [] ys ≡ ys
unfolding merged
merged_none ys = refl

pub merged_only : (xs : List Pair) → merged xs [] ≡ xs
unfolding merged among
merged_only [] = refl
merged_only (x ∷ xs) = ap (λ zs. x ∷ zs) (merged_only xs)

merges_among : (x : Pair) (xs : List Pair) → ((ys : List Pair) → Merge xs ys (merged xs ys)) → (ys : List Pair) → Merge (x ∷ xs) ys (merged (x ∷ xs) ys)
unfolding merged among
merges_among x xs f [] = only (f [])
merges_among x xs f (y ∷ ys) =
    ⊎_elim (λ (e : x.key ≡ y.key). rw (merged_same x y xs ys e) (same e (f ys)))
    (⊎_elim (λ (h : x.key < y.key). rw (merged_left x y xs ys h) (left h (f (y ∷ ys))))
    (λ (h : y.key < x.key). rw (merged_right x y xs ys h) (right h (merges_among x xs f ys))))
    (cases_order x.key y.key)

pub merges : (xs ys : List Pair) → Merge xs ys (merged xs ys)
unfolding merged
merges [] ys = none
merges (x ∷ xs) ys = merges_among x xs (merges xs) ys

-- the count of a key
unfoldable pub count_at : ℕ → List Pair → ℕ
count_at k [] = 0
count_at k (x ∷ xs) = stop (cond (x.key == k) x.count 0 + count_at k xs)

pub at_stops : (k : ℕ) (xs : List Pair) → count_at k xs < 2 ^ 32
unfolding count_at
at_stops k [] = omega arith
at_stops k (x ∷ xs) = omega arith

at_merge : {xs ys zs : List Pair} (k : ℕ) → Merge xs ys zs → count_at k zs ≡ stop (count_at k xs + count_at k ys)
unfolding count_at
at_merge k (none {ys}) = omega (arith, at_stops k ys)
at_merge k (only r) = omega (arith, at_merge k r)
at_merge k (left h r) = omega (arith, at_merge k r)
at_merge k (right h r) = omega (arith, at_merge k r)
at_merge k (same {x} {y} e r) =
    ⊎_elim (λ (d : x.key ≡ k). rw (eq-eqb x.key k d, eq-eqb y.key k (sym e ∙ d)) (omega (arith, at_merge k r)))
    (λ (d : x.key ≡ k → ⊥). rw (ne_eqb x.key k d, ne_eqb y.key k (λ f. d (e ∙ f))) (omega (arith, at_merge k r)))
    (cases_eq x.key k)

pub at_merged : (k : ℕ) (xs ys : List Pair) → count_at k (merged xs ys) ≡ stop (count_at k xs + count_at k ys)
at_merged k xs ys = at_merge k (merges xs ys)

-- keys rise strictly from above l, and counts are at least 1; all below 2 ^ 32
abbrev pub Rising : ℕ → List Pair → Type 0
Rising l [] = Unit {0}
Rising l (x ∷ xs) = (l < x.key) × (0 < x.count) × (x.key < 2 ^ 32) × (x.count < 2 ^ 32) × Rising x.key xs

pub rising_below : (l m : ℕ) (xs : List Pair) → l ≤ m → Rising m xs → Rising l xs
rising_below l m [] h r = tt
rising_below l m (x ∷ xs) h r = (omega arith, r.1, r.2, r.3, r.4)

rising_merge : {xs ys zs : List Pair} (l : ℕ) → Merge xs ys zs → Rising l xs → Rising l ys → Rising l zs
rising_merge l none r s = s
rising_merge l (only m) r s = (r.0, r.1, r.2, r.3, rising_merge _ m r.4 tt)
rising_merge l (left h m) r s = (r.0, r.1, r.2, r.3, rising_merge _ m r.4 (h, s.1, s.2, s.3, s.4))
rising_merge l (right h m) r s = (s.0, s.1, s.2, s.3, rising_merge _ m (h, r.1, r.2, r.3, r.4) s.4)
rising_merge l (same {x} {y} {ys} e m) r s = (r.0, omega arith, r.2, omega arith, rising_merge x.key m r.4 (rising_below x.key y.key ys (omega arith) s.4))

pub rising_merged : (l : ℕ) (xs ys : List Pair) → Rising l xs → Rising l ys → Rising l (merged xs ys)
rising_merged l xs ys = rising_merge l (merges xs ys)

-- a list that rises from above l has no key up to l
pub at_low : (k l : ℕ) (xs : List Pair) → k ≤ l → Rising l xs → count_at k xs ≡ 0
unfolding count_at
at_low k l [] h r = refl
at_low k l (x ∷ xs) h r = rw (ne_eqb x.key k (omega arith)) (omega (arith, at_low k x.key xs (omega arith) r.4))

pub at_head : (x : Pair) (xs : List Pair) (l : ℕ) → Rising l (x ∷ xs) → count_at x.key (x ∷ xs) ≡ x.count
unfolding count_at
at_head x xs l r = rw (eq-eqb x.key x.key refl) (omega (arith, at_low x.key x.key xs (omega arith) r.4))

pub at_tail : (k : ℕ) (x : Pair) (xs : List Pair) → (x.key ≢ k) → count_at k (x ∷ xs) ≡ count_at k xs
unfolding count_at
at_tail k x xs d = rw (ne_eqb x.key k d) (omega (arith, at_stops k xs))

pub pair_same : (x y : Pair) → x.key ≡ y.key → x.count ≡ y.count → x ≡ y
pair_same x y p q = λ i. record { key = p i; count = q i }

-- lists with rising keys are equal when each key has the same count in both
pub same_by_counts : (l : ℕ) (xs ys : List Pair) → Rising l xs → Rising l ys → ((k : ℕ) → count_at k xs ≡ count_at k ys) → xs ≡ ys
same_by_counts l [] [] r s e = refl
same_by_counts l [] (y ∷ ys) r s e = absurd (omega (arith, e y.key, at_head y ys l s, at_low y.key y.key [] (omega arith) tt))
same_by_counts l (x ∷ xs) [] r s e = absurd (omega (arith, e x.key, at_head x xs l r, at_low x.key x.key [] (omega arith) tt))
same_by_counts l (x ∷ xs) (y ∷ ys) r s e =
    ⊎_elim (λ (d : x.key ≡ y.key).
    let c : x.count ≡ y.count = omega (arith, e x.key, at_head x xs l r, at_head y ys l s, ap (λ k. count_at k (y ∷ ys)) d) in
    let low : Rising x.key ys = rising_below x.key y.key ys (omega arith) s.4 in
    let t : (k : ℕ) → count_at k xs ≡ count_at k ys = λ k. ⊎_elim (λ (f : x.key ≡ k). at_low k x.key xs (omega arith) r.4 ∙ sym (at_low k x.key ys (omega arith) low))
    (λ (f : x.key ≡ k → ⊥). sym (at_tail k x xs f) ∙ e k ∙ at_tail k y ys (λ g. f (d ∙ g))) (cases_eq x.key k) in
    let p = pair_same x y d c in
    let q = same_by_counts x.key xs ys r.4 low t in
    cc)
    (⊎_elim (λ (h : x.key < y.key). absurd (omega (arith, e x.key, at_head x xs l r, at_low x.key x.key (y ∷ ys) (omega arith) (h, s.1, s.2, s.3, s.4))))
    (λ (h : y.key < x.key). absurd (omega (arith, e y.key, at_head y ys l s, at_low y.key y.key (x ∷ xs) (omega arith) (h, r.1, r.2, r.3, r.4)))))
    (cases_order x.key y.key)

pub merged_comm : (l : ℕ) (xs ys : List Pair) → Rising l xs → Rising l ys → merged xs ys ≡ merged ys xs
merged_comm l xs ys r s = same_by_counts l _ _ (rising_merged l xs ys r s) (rising_merged l ys xs s r) (λ k. omega (arith, at_merged k xs ys, at_merged k ys xs))

pub merged_assoc : (l : ℕ) (xs ys zs : List Pair) → Rising l xs → Rising l ys → Rising l zs → merged (merged xs ys) zs ≡ merged xs (merged ys zs)
merged_assoc l xs ys zs r s t =
    same_by_counts l _ _ (rising_merged l (merged xs ys) zs (rising_merged l xs ys r s) t) (rising_merged l xs (merged ys zs) r (rising_merged l ys zs s t))
    (λ k. omega (arith, at_merged k (merged xs ys) zs, at_merged k xs ys, at_merged k xs (merged ys zs), at_merged k ys zs))

-- what falls out of the first list never comes among the first n
filled_merge : (n m : ℕ) {xs ys zs : List Pair} → Merge xs ys zs → n ≤ m → filled n (merged (take m xs) ys) ≡ filled n zs
filled_merge zero m r h = refl
filled_merge (suc n) zero r h = absurd (omega arith)
filled_merge (suc n) (suc m) (none {ys}) h = ap (filled (suc n)) (merged_none ys)
filled_merge (suc n) (suc m) (only {x} {xs} r) h = rw (merged_only (x ∷ take m xs)) (ap (λ zs. x ∷ zs) (ap (filled n) (sym (merged_only (take m xs))) ∙ filled_merge n m r (omega arith)))
filled_merge (suc n) (suc m) (left {x} {y} {xs} {ys} k r) h = rw (merged_left x y (take m xs) ys k) (ap (λ zs. x ∷ zs) (filled_merge n m r (omega arith)))
filled_merge (suc n) (suc m) (right {x} {y} {xs} {ys} k r) h = rw (merged_right x y (take m xs) ys k) (ap (λ zs. y ∷ zs) (filled_merge n (suc m) r (omega arith)))
filled_merge (suc n) (suc m) (same {x} {y} {xs} {ys} k r) h = rw (merged_same x y (take m xs) ys k) (ap (λ zs. both x y ∷ zs) (filled_merge n m r (omega arith)))

total_merge : {xs ys zs : List Pair} → Merge xs ys zs → stop (total zs) ≡ stop (total xs + total ys)
total_merge none = omega arith
total_merge (only r) = omega (arith, total_merge r)
total_merge (left h r) = omega (arith, total_merge r)
total_merge (right h r) = omega (arith, total_merge r)
total_merge (same h r) = omega (arith, total_merge r)

total_take : (m : ℕ) (xs : List Pair) → total (take m xs) + spilled m xs ≡ total xs
total_take zero xs = omega arith
total_take (suc m) [] = refl
total_take (suc m) (x ∷ xs) = omega (arith, total_take m xs)

-- and it is counted
spilled_merge : (n m : ℕ) {xs ys zs : List Pair} → Merge xs ys zs → n ≤ m → stop (spilled n (merged (take m xs) ys) + spilled m xs) ≡ stop (spilled n zs)
spilled_merge zero m {xs} {ys} r h = omega (arith, total_merge (merges (take m xs) ys), total_merge r, total_take m xs)
spilled_merge (suc n) zero r h = absurd (omega arith)
spilled_merge (suc n) (suc m) (none {ys}) h = rw (merged_none ys) (omega arith)
spilled_merge (suc n) (suc m) (only {x} {xs} r) h = rw (merged_only (x ∷ take m xs)) (rw (merged_only (take m xs)) at (spilled_merge n m r (omega arith)))
spilled_merge (suc n) (suc m) (left {x} {y} {xs} {ys} k r) h = rw (merged_left x y (take m xs) ys k) (spilled_merge n m r (omega arith))
spilled_merge (suc n) (suc m) (right {x} {y} {xs} {ys} k r) h = rw (merged_right x y (take m xs) ys k) (spilled_merge n (suc m) r (omega arith))
spilled_merge (suc n) (suc m) (same {x} {y} {xs} {ys} k r) h = rw (merged_same x y (take m xs) ys k) (spilled_merge n m r (omega arith))

pub filled_merged : (n : ℕ) (xs ys : List Pair) → filled n (merged (take n xs) ys) ≡ filled n (merged xs ys)
filled_merged n xs ys = filled_merge n n (merges xs ys) (omega arith)

pub spilled_merged : (n : ℕ) (xs ys : List Pair) → stop (spilled n (merged (take n xs) ys) + spilled n xs) ≡ stop (spilled n (merged xs ys))
spilled_merged n xs ys = spilled_merge n n (merges xs ys) (omega arith)

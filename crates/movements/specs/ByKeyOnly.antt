-- Only one tally is the join of two in words.
use Rattle.std.specs.Prelude.{◌≡◌, ℕ, suc, ◌+◌, ◌<◌, ◌≤◌, List, [], ◌∷◌, length, ◌==◌}
use Rattle.std.proofs.Common.{sym, ap, ◌∙◌, ⊎_elim, arith}
use Rattle.std.proofs.lemmas.Bool.{cond_both, cases_eq, cases_lt, cases_order}
use Rattle.movements.specs.declared.pair.Pair.{Pair}
use Rattle.movements.specs.declared.kept.Movements.{Movements}
use Rattle.movements.specs.Pairs.{stop, filled, used}
use Rattle.movements.specs.Merging.{Rising, count_at, at_low, at_head, at_tail, rising_below, same_by_counts}
use Rattle.movements.specs.Join.{uses, uses_rise, filled_uses, movements_same}
use Rattle.movements.specs.ByKey.{ByKey, Below, left_out}

at_none : (k : ℕ) → count_at k [] ≡ 0
at_none k = at_low k k [] (omega arith) tt

below_at : (k j : ℕ) (zs : List Pair) → Below k zs → 0 < count_at j zs → j < k
below_at k j [] b h = absurd (omega (arith, at_none j))
below_at k j (z ∷ zs) b h =
    ⊎_elim (λ (e : z.key ≡ j). omega (arith, b 0 (omega arith)))
    (λ (e : z.key ≡ j → ⊥). below_at k j zs (λ i l. b (suc i) (omega arith)) (omega (arith, at_tail j z zs e)))
    (cases_eq z.key j)

-- a list that has all keys of another and one above them is longer
longer : (l k : ℕ) (zs ws : List Pair) → Rising l zs → Rising l ws → ((j : ℕ) → 0 < count_at j ws → 0 < count_at j zs) → 0 < count_at k zs → ((j : ℕ) → 0 < count_at j ws → j < k) → length ws < length zs
longer l k [] ws r s f h b = absurd (omega (arith, at_none k))
longer l k (z ∷ zs) [] r s f h b = omega arith
longer l k (z ∷ zs) (w ∷ ws) r s f h b =
    let hw : 0 < count_at w.key (w ∷ ws) = omega (arith, at_head w ws l s) in
    let kw = b w.key hw in
    ⊎_elim (λ (e : z.key ≡ w.key).
    let low : Rising z.key ws = rising_below z.key w.key ws (omega arith) s.4 in
    let over : (j : ℕ) → 0 < count_at j ws → z.key < j = λ j p. ⊎_elim (λ (q : z.key < j). q) (λ (q : j ≤ z.key). absurd (omega (arith, at_low j z.key ws q low))) (cases_lt z.key j) in
    let back : (j : ℕ) → 0 < count_at j ws → 0 < count_at j (w ∷ ws) = λ j p. let o = over j p in omega (arith, at_tail j w ws (omega arith)) in
    let t = longer z.key k zs ws r.4 low (λ j p. let o = over j p in omega (arith, f j (back j p), at_tail j z zs (omega arith))) (omega (arith, at_tail k z zs (omega arith))) (λ j p. b j (back j p)) in
    omega arith)
    (⊎_elim (λ (e : z.key < w.key).
    let low : Rising z.key (w ∷ ws) = (e, s.1, s.2, s.3, s.4) in
    let t = longer z.key k zs (w ∷ ws) r.4 low (λ j p. ⊎_elim (λ (q : z.key < j). omega (arith, f j p, at_tail j z zs (omega arith))) (λ (q : j ≤ z.key). absurd (omega (arith, at_low j z.key (w ∷ ws) q low))) (cases_lt z.key j)) (omega (arith, at_tail k z zs (omega arith))) b in
    omega arith)
    (λ (e : w.key < z.key). absurd (omega (arith, f w.key hw, at_low w.key w.key (z ∷ zs) (omega arith) (e, r.1, r.2, r.3, r.4)))))
    (cases_order z.key w.key)

few : (ps : List Pair) → length (used ps) ≤ length ps
few [] = omega arith
few (p ∷ ps) = cond_both (p.key == 0) [] (p ∷ used ps) (λ xs. length xs ≤ suc (length ps)) (λ _. omega arith) (λ _. omega (arith, few ps))

-- a key that one join has is not left out of another
module _ (x y z w : Movements) (p : ByKey x y z) (q : ByKey x y w) (k : ℕ) where
  abbrev sum : ℕ → ℕ
  sum j = stop (count_at j (uses x) + count_at j (uses y))

  kept_in_both : count_at k (uses z) ≡ sum k → count_at k (uses w) ≡ 0 → length (uses w) ≡ 16 → Below k (uses w) → 0 < sum k → ⊥
  kept_in_both e f l b h =
      let all : (j : ℕ) → 0 < count_at j (uses w) → 0 < count_at j (uses z) = λ j u.
      let s : count_at j (uses w) ≡ sum j = ⊎_elim (λ (d : count_at j (uses w) ≡ sum j). d) (λ (d : (count_at j (uses w) ≡ 0) × (length (uses w) ≡ 16) × Below j (uses w)). absurd (omega (arith, d.0))) (q.counts j) in
      let jk = below_at k j (uses w) b u in
      ⊎_elim (λ (d : count_at j (uses z) ≡ sum j). omega arith) (λ (d : (count_at j (uses z) ≡ 0) × (length (uses z) ≡ 16) × Below j (uses z)). absurd (omega (arith, below_at j k (uses z) d.2 (omega arith)))) (p.counts j) in
      omega (arith, longer 0 k (uses z) (uses w) (uses_rise z) (uses_rise w) all (omega arith) (λ j u. below_at k j (uses w) b u), few z.pairs, z.full)

same_counts : (x y z w : Movements) → ByKey x y z → ByKey x y w → (k : ℕ) → count_at k (uses z) ≡ count_at k (uses w)
same_counts x y z w p q k =
    let s = stop (count_at k (uses x) + count_at k (uses y)) in
    ⊎_elim (λ (a : count_at k (uses z) ≡ s).
    ⊎_elim (λ (b : count_at k (uses w) ≡ s). a ∙ sym b)
    (λ (b : (count_at k (uses w) ≡ 0) × (length (uses w) ≡ 16) × Below k (uses w)).
    ⊎_elim (λ (h : 0 < s). absurd (kept_in_both x y z w p q k a b.0 b.1 b.2 h)) (λ (h : s ≤ 0). omega (arith, b.0)) (cases_lt 0 s))
    (q.counts k))
    (λ (a : (count_at k (uses z) ≡ 0) × (length (uses z) ≡ 16) × Below k (uses z)).
    ⊎_elim (λ (b : count_at k (uses w) ≡ s).
    ⊎_elim (λ (h : 0 < s). absurd (kept_in_both x y w z q p k b a.0 a.1 a.2 h)) (λ (h : s ≤ 0). omega (arith, a.0)) (cases_lt 0 s))
    (λ (b : (count_at k (uses w) ≡ 0) × (length (uses w) ≡ 16) × Below k (uses w)). a.0 ∙ sym b.0)
    (q.counts k))
    (p.counts k)

pub by_key_only : (x y z w : Movements) → ByKey x y z → ByKey x y w → z ≡ w
by_key_only x y z w p q =
    let u : uses z ≡ uses w = same_by_counts 0 (uses z) (uses w) (uses_rise z) (uses_rise w) (same_counts x y z w p q) in
    movements_same z w (sym (filled_uses z) ∙ ap (filled 16) u ∙ filled_uses w) (omega (arith, p.others, q.others, ap (λ zs. left_out zs (uses x)) u, ap (λ zs. left_out zs (uses y)) u))

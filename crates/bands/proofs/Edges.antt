-- The lengths of a band lie between two edges. Assumes nothing.
use Rattle.std.proofs.Common.{◌≡◌, ℕ, zero, suc, ◌+◌, ◌-◌, ◌<◌, ◌≤◌, Bool, true, cond, ◌&&◌, eqb, ltb, leb, List, [], ◌∷◌, length, get_or, Some, None, Option, sym, refl, subst, add-one, arith, lit≤, MatchOption}
use Rattle.std.proofs.lemmas.Bool.{cond_both, and_parts, ltb-true, ltb-false, leb-true, eqb-true, eqb-false}
use Rattle.tally.specs.Queues.{edges, edges_rise, LastBand}
use Rattle.bands.specs.declared.bounds.Bounds.{Bounds}
use Rattle.bands.specs.declared.bounds.Bounds.TheVariants.{One, Between, From}
use Rattle.bands.specs.Bounds.{span, bounds_of, Within, Bound}

-- each edge is above the one before it
climbs : List ℕ → Bool
climbs [] = true
climbs (x ∷ []) = true
climbs (x ∷ y ∷ xs) = ltb x y && climbs (y ∷ xs)

climbs_at : (xs : List ℕ) → climbs xs ≡ true → (k : ℕ) → suc k < length xs → get_or xs k 0 < get_or xs (suc k) 0
unfolding climbs
climbs_at [] c k h = absurd (omega arith)
climbs_at (x ∷ []) c k h = absurd (omega arith)
climbs_at (x ∷ y ∷ xs) c zero h = ltb-true x y (and_parts (ltb x y) (climbs (y ∷ xs)) c).0
climbs_at (x ∷ y ∷ xs) c (suc k) h = climbs_at (y ∷ xs) (and_parts (ltb x y) (climbs (y ∷ xs)) c).1 k (omega arith)

next_edge : (k : ℕ) → k < 15 → get_or edges k 0 < get_or edges (k + 1) 0
unfolding climbs
next_edge k h = subst (λ j. get_or edges k 0 < get_or edges j 0) (sym (add-one k)) (climbs_at edges refl k (omega arith))

-- a band with a next one
between_edges : (n band : ℕ) → band < 15 → get_or edges band 0 ≤ n → n < get_or edges (band + 1) 0 → LastBand n band
between_edges n band h low high = record {
  within = omega arith;
  reached = low;
  last = λ j above inside. omega (arith, edges_rise (band + 1) j (omega arith) inside);
}

abbrev Spans : ℕ → ℕ → ℕ → Bounds → Type 0
Spans a b n bounds = (Within n bounds → (a ≤ n) × (n < b)) × (a ≤ n → n < b → Within n bounds)

spans : (a b n : ℕ) → a < b → Spans a b n (span a b)
spans a b n h =
    cond_both (leb (b - a) 1) (One a) (Between a (b - 1)) (Spans a b n)
    (λ e. let near = leb-true (b - a) 1 e in (λ w. (omega arith, omega arith), λ p q. omega arith))
    (λ e. (λ w. (w.0, omega (arith, w.1)), λ p q. (p, omega arith)))

pub inner : (band : ℕ) → band < 15 → Bound band (span (get_or edges band 0) (get_or edges (band + 1) 0))
inner band h =
    let a = get_or edges band 0 in
    let b = get_or edges (band + 1) 0 in
    let rise : a < b = next_edge band h in
    record {
      band_within = omega arith;
      only = λ n w. let p = (spans a b n rise).0 w in between_edges n band h p.0 p.1;
      each = λ n l. (spans a b n rise).1 l.reached (l.last (band + 1) (omega arith) (omega arith));
    }

outer : Bound 15 (From (get_or edges 15 0))
outer = record {
  band_within = lit≤ tt;
  only = λ n w. record { within = lit≤ tt; reached = w; last = λ j above inside. absurd (omega arith) };
  each = λ n l. l.reached;
}

abbrev Bounded : ℕ → Option Bounds → Type 0
Bounded band r = MatchOption r (16 ≤ band) (Bound band)

bound : (band : ℕ) → MatchOption (bounds_of band) (16 ≤ band) (Bound band)
bound band =
    let edge = cond (eqb band 15) (Some (From (get_or edges 15 0))) None in
    cond_both (ltb band 15) (Some (span (get_or edges band 0) (get_or edges (band + 1) 0))) edge (Bounded band) (λ e. inner band (ltb-true band 15 e))
    (λ e. cond_both (eqb band 15) (Some (From (get_or edges 15 0))) None (Bounded band) (λ f. subst (λ k. Bound k (From (get_or edges 15 0))) (sym (eqb-true band 15 f)) outer) (λ f. omega (arith, ltb-false band 15 e, eqb-false band 15 f)))

pub bound_of : (band : ℕ) (r : Option Bounds) → r ≡ bounds_of band → MatchOption r (16 ≤ band) (Bound band)
bound_of band r e = subst (Bounded band) (sym e) (bound band)

-- The walk over two tallies, from the smallest key on, that gathers their join.
use Rattle.std.proofs.Common.{◌≡◌, ℕ, zero, not, Some, None, unwrap_or, slice_get, position, subst, inl, inr, ◌⊎◌, suc, ◌+◌, ◌-◌, ◌^◌, ◌<◌, ◌≤◌, true, false, cond, eqb, ltb, List, [], ◌∷◌, ◌++◌, length, take, drop, set, sym, refl, ap, ◌∙◌, ⊎_elim, append_assoc, arith, length-set}
use Rattle.std.proofs.lemmas.List.{take_all, take_more_set, take-append-drop, drop-set-lt, drop-drop}
use Rattle.std.specs.List.{position_or_len}
use Rattle.std.proofs.lemmas.Bool.{ltb-true, ltb-false, cond_both}
use Rattle.std.proofs.lemmas.Bool.Decides.{nat_tests}
use Rattle.movements.specs.declared.join.Gathered.{Gathered}
use Rattle.movements.specs.declared.pair.Pair.{Pair}
use Rattle.movements.specs.Gathering.{start, with_pair}
use Rattle.movements.specs.Pairs.{stop, both, least, lesser, after, merged, filled, spilled, used}
use Rattle.movements.specs.Merging.{merged_left, merged_right, merged_same, merged_none, merged_only}

spilled_none : (n : ℕ) → spilled n [] ≡ 0
spilled_none zero = refl
spilled_none (suc n) = refl

-- the used pairs are those before the first unused one
used_front : (ps : List Pair) → take (position_or_len (λ p. eqb p.key 0) ps) ps ≡ used ps
used_front [] = refl
used_front (p ∷ ps) =
    let k = position_or_len (λ q. eqb q.key 0) ps in
    let s : 1 + k ≡ suc k = omega arith in
    elim (eqb p.key 0) as (λ b. take (cond (not b) (1 + position_or_len (λ q. eqb q.key 0) ps) 0) (p ∷ ps) ≡ cond b [] (p ∷ used ps)) [ true ↦ refl | false ↦ ap (λ m. take m (p ∷ ps)) s ∙ ap (λ qs. p ∷ qs) (used_front ps) ]

pub used_before : (ps : List Pair) (n : ℕ) → length ps ≡ n → take (unwrap_or (position (λ p. eqb p.key 0) ps) n) ps ≡ used ps
used_before ps n l =
    let k = position_or_len (λ p. eqb p.key 0) ps in
    cond_both (ltb k (length ps)) (Some k) None (λ o. take (unwrap_or o n) ps ≡ used ps) (λ h. used_front ps)
    (λ h. let g : length ps ≤ k = ltb-false _ _ h in take_all n ps (omega arith) ∙ sym (take_all k ps g) ∙ used_front ps)

-- a turn takes the least pair from the front of one list or both
turn_both : (x y : Pair) (xs ys : List Pair) → merged (x ∷ xs) (y ∷ ys) ≡ lesser x y ∷ merged (after (x ∷ xs) (lesser x y).key) (after (y ∷ ys) (lesser x y).key)
turn_both x y xs ys = grind (arith, nat_tests, merged_left, merged_right, merged_same)

turn_right : (y : Pair) (ys : List Pair) → merged [] (y ∷ ys) ≡ y ∷ merged [] (after (y ∷ ys) y.key)
turn_right y ys = grind (arith, nat_tests, merged_none)

turn_left : (x : Pair) (xs : List Pair) → merged (x ∷ xs) [] ≡ x ∷ merged (after (x ∷ xs) x.key) []
turn_left x xs = grind (arith, nat_tests, merged_only)

pub turn : (l r : List Pair) (p : Pair) → Some p ≡ least (slice_get l 0) (slice_get r 0) → merged l r ≡ p ∷ merged (after l p.key) (after r p.key)
turn [] [] p e = cc
turn [] (y ∷ ys) p e = let h : y ≡ p = cc in subst (λ q. merged [] (y ∷ ys) ≡ q ∷ merged [] (after (y ∷ ys) q.key)) h (turn_right y ys)
turn (x ∷ xs) [] p e = let h : x ≡ p = cc in subst (λ q. merged (x ∷ xs) [] ≡ q ∷ merged (after (x ∷ xs) q.key) []) h (turn_left x xs)
turn (x ∷ xs) (y ∷ ys) p e = let h : lesser x y ≡ p = cc in subst (λ q. merged (x ∷ xs) (y ∷ ys) ≡ q ∷ merged (after (x ∷ xs) q.key) (after (y ∷ ys) q.key)) h (turn_both x y xs ys)

after_less : (x : Pair) (xs : List Pair) (key : ℕ) → x.key ≡ key → length (after (x ∷ xs) key) < length (x ∷ xs)
after_less x xs key e = grind (arith, nat_tests)

after_few : (xs : List Pair) (key : ℕ) → length (after xs key) ≤ length xs
after_few [] key = omega arith
after_few (x ∷ xs) key = grind (arith, nat_tests)

lesser_key : (x y : Pair) → (x.key ≡ (lesser x y).key) ⊎ (y.key ≡ (lesser x y).key)
lesser_key x y = cond_both (ltb x.key y.key) x (cond (ltb y.key x.key) y (both x y)) (λ q. (x.key ≡ q.key) ⊎ (y.key ≡ q.key)) (λ h. inl refl) (λ h. cond_both (ltb y.key x.key) y (both x y) (λ q. (x.key ≡ q.key) ⊎ (y.key ≡ q.key)) (λ k. inr refl) (λ k. inl refl))

pub shorter : (l r : List Pair) (p : Pair) → Some p ≡ least (slice_get l 0) (slice_get r 0) → length (after l p.key) + length (after r p.key) < length l + length r
shorter [] [] p e = cc
shorter [] (y ∷ ys) p e = let h : y ≡ p = cc in omega (arith, after_less y ys p.key (ap (λ q. q.key) h))
shorter (x ∷ xs) [] p e = let h : x ≡ p = cc in omega (arith, after_less x xs p.key (ap (λ q. q.key) h))
shorter (x ∷ xs) (y ∷ ys) p e =
    let h : lesser x y ≡ p = cc in
    let k = ap (λ q. q.key) h in
    ⊎_elim (λ (s : x.key ≡ (lesser x y).key). omega (arith, after_less x xs p.key (s ∙ k), after_few (y ∷ ys) p.key))
    (λ (s : y.key ≡ (lesser x y).key). omega (arith, after_less y ys p.key (s ∙ k), after_few (x ∷ xs) p.key)) (lesser_key x y)

-- no pair is left
pub over : (l r : List Pair) → None ≡ least (slice_get l 0) (slice_get r 0) → merged l r ≡ []
over [] [] e = merged_none []
over [] (y ∷ ys) e = cc
over (x ∷ xs) [] e = cc
over (x ∷ xs) (y ∷ ys) e = cc

-- what is gathered, with what is still to come, is the join
pub record Going (xs ys : List Pair) (n : ℕ) (l r : List Pair) (g : Gathered) : Type 0 where
  pub long : length g.pairs ≡ 16
  pub few : g.used ≤ 16
  pub small : g.rest < 2 ^ 32
  pub pairs : take g.used g.pairs ++ filled (16 - g.used) (merged l r) ≡ filled 16 (merged xs ys)
  pub blank : drop g.used g.pairs ≡ filled (16 - g.used) []
  pub counts : stop (g.rest + spilled (16 - g.used) (merged l r)) ≡ stop (n + spilled 16 (merged xs ys))

pub begun : (xs ys : List Pair) (m n : ℕ) → Going xs ys (m + n) xs ys (start m n)
begun xs ys m n = record { long = refl; few = omega arith; small = omega arith; pairs = refl; blank = refl; counts = omega arith }

module _ (xs ys : List Pair) (m : ℕ) (l r l' r' : List Pair) (g : Gathered) (p : Pair) (was : Going xs ys m l r g) (to : merged l r ≡ p ∷ merged l' r') where
  stored : g.used < 16 → Going xs ys m l' r' (record { pairs = set g.pairs g.used p; used = g.used + 1; rest = g.rest })
  stored h =
      let n = g.used in
      let out = g.pairs in
      let e : 16 - n ≡ suc (16 - (n + 1)) = omega arith in
      record {
        long = length-set out n p ∙ was.long;
        few = omega arith;
        small = was.small;
        pairs = ap (λ ps. ps ++ filled (16 - (n + 1)) (merged l' r')) (take_more_set out n p (omega (arith, was.long)))
            ∙ append_assoc (take n out) (p ∷ []) (filled (16 - (n + 1)) (merged l' r'))
            ∙ ap (λ k. take n out ++ filled k (p ∷ merged l' r')) (sym e)
            ∙ ap (λ ps. take n out ++ filled (16 - n) ps) (sym to)
            ∙ was.pairs;
        blank = drop-set-lt (n + 1) out n p (omega arith) ∙ sym (drop-drop 1 n out) ∙ ap (drop 1) was.blank ∙ ap (λ k. drop 1 (filled k [])) e;
        counts = omega (arith, was.counts, ap (spilled (16 - n)) to, ap (λ k. spilled k (p ∷ merged l' r')) e);
      }

  counted : 16 ≤ g.used → Going xs ys m l' r' (record { pairs = g.pairs; used = g.used; rest = stop (g.rest + p.count) })
  counted h =
      let n = g.used in
      let out = g.pairs in
      let e : 16 - n ≡ 0 = omega (arith, was.few) in
      record {
        long = was.long;
        few = was.few;
        small = omega arith;
        pairs = ap (λ k. take n out ++ filled k (merged l' r')) e ∙ ap (λ k. take n out ++ filled k (merged l r)) (sym e) ∙ was.pairs;
        blank = was.blank;
        counts = omega (arith, was.counts, ap (spilled (16 - n)) to, ap (λ k. spilled k (p ∷ merged l' r')) e, ap (λ k. spilled k (merged l' r')) e);
      }

  pub gone_on : Going xs ys m l' r' (with_pair g p)
  gone_on = cond_both (ltb g.used 16) _ _ (Going xs ys m l' r') (λ t. stored (ltb-true g.used 16 t)) (λ t. counted (ltb-false g.used 16 t))

pub ended : (xs ys : List Pair) (m : ℕ) (l r : List Pair) (g : Gathered) → Going xs ys m l r g → merged l r ≡ [] → (g.pairs ≡ filled 16 (merged xs ys)) × (g.rest ≡ stop (m + spilled 16 (merged xs ys)))
ended xs ys m l r g was e =
    let n = g.used in
    let out = g.pairs in (
      sym (take-append-drop n out) ∙ ap (λ ps. take n out ++ ps) was.blank ∙ ap (λ ps. take n out ++ filled (16 - n) ps) (sym e) ∙ was.pairs,
      omega (arith, was.counts, was.small, ap (spilled (16 - n)) e, spilled_none (16 - n)),
    )

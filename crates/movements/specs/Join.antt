-- The join of two movements tallies, and its laws.
use Rattle.std.specs.Prelude.{◌≡◌, ℕ, zero, suc, ◌+◌, ◌^◌, ◌<◌, ◌≤◌, Bool, true, ◌&&◌, List, [], ◌∷◌, length, take, None, ◌==◌, slice_index_or, refl}
use Rattle.std.proofs.Common.{sym, ◌∙◌, arith}
use Rattle.std.proofs.Math.Path.{ap}
use Rattle.std.proofs.Math.Bool.{Bool-set}
use mathlib.Core.HLevel.{is_prop→PathP, Π_prop, ×_prop}
use Rattle.std.proofs.Math.Bridge.{le_prop}
use Rattle.std.proofs.Math.Nat.{ℕ_set}
use Rattle.std.proofs.lemmas.Bool.{cond_both, and_parts, eqb-true}
use Rattle.movements.specs.declared.kept.Movements.{Movements}
use Rattle.movements.specs.declared.pair.Pair.{Pair}
use Rattle.movements.specs.Pairs.{stop, unused, filled, spilled, used, merged}
use Rattle.movements.specs.Merging.{Rising, Merge, none, only, left, right, same, merges, merged_none, merged_comm, merged_assoc, rising_merged, filled_merged, spilled_merged}
use Rattle.movements.specs.Faults.{Small, Faultless}
use Rattle.movements.specs.Order.{used_none, used_rising, filled_used, right_filled, used_filled, length_filled, small_filled, filled_blank}

-- tallies with the same pairs and the same rest are equal
pub movements_same : (x y : Movements) → x.pairs ≡ y.pairs → x.rest ≡ y.rest → x ≡ y
movements_same x y p q = λ i. record {
  pairs = p i;
  rest = q i;
  full = is_prop→PathP (λ j. length (p j) ≡ 16) (λ j. ℕ_set _ _) x.full y.full i;
  small = is_prop→PathP (λ j. Small (p j)) (λ j. Π_prop (λ k. ×_prop le_prop le_prop)) x.small y.small i;
  faultless = is_prop→PathP (λ j. Faultless (p j)) (λ j. Bool-set _ _) x.faultless y.faultless i;
  fits = is_prop→PathP (λ j. q j < 2 ^ 32) (λ j. le_prop) x.fits y.fits i;
}

-- the used pairs of a tally
abbrev pub uses : Movements → List Pair
uses x = used x.pairs

pub uses_rise : (x : Movements) → Rising 0 (uses x)
uses_rise x = used_rising 0 None x.pairs x.small x.faultless

pub filled_uses : (x : Movements) → filled 16 (uses x) ≡ x.pairs
filled_uses x = ap (λ n. filled n (uses x)) (sym x.full) ∙ filled_used 0 None x.pairs x.faultless

-- the tally of pairs with rising keys: the first sixteen are kept, and the counts of the others are added to n
abbrev pub keep : (xs : List Pair) → Rising 0 xs → ℕ → Movements
keep xs r n = record {
  pairs = filled 16 xs;
  rest = stop (n + spilled 16 xs);
  full = length_filled 16 xs;
  small = small_filled 16 0 xs r;
  faultless = right_filled 16 0 None xs tt r;
  fits = omega arith;
}

abbrev pub empty : Movements
empty = keep [] tt 0

-- the pairs of both
abbrev pub all_pairs : Movements → Movements → List Pair
all_pairs x y = merged (uses x) (uses y)

pub all_rise : (x y : Movements) → Rising 0 (all_pairs x y)
all_rise x y = rising_merged 0 (uses x) (uses y) (uses_rise x) (uses_rise y)

abbrev pub join : Movements → Movements → Movements
join x y = keep (all_pairs x y) (all_rise x y) (x.rest + y.rest)

-- no pair is used, and the rest is 0
abbrev pub is_empty : Movements → Bool
is_empty x = (slice_index_or x.pairs 0 unused).key == 0 && x.rest == 0

none_used : (ps : List Pair) → (slice_index_or ps 0 unused).key ≡ 0 → used ps ≡ []
none_used [] e = refl
none_used (p ∷ ps) e = used_none p ps e

pub only_empty : (x : Movements) → is_empty x ≡ true → x ≡ empty
only_empty x e =
    let t = and_parts ((slice_index_or x.pairs 0 unused).key == 0) (x.rest == 0) e in
    movements_same _ _ (sym (filled_uses x) ∙ ap (filled 16) (none_used x.pairs (eqb-true _ _ t.0))) (eqb-true _ _ t.1)

pub comm : (x y : Movements) → join x y ≡ join y x
comm x y = let e = merged_comm 0 (uses x) (uses y) (uses_rise x) (uses_rise y) in movements_same _ _ (ap (filled 16) e) (omega (arith, ap (spilled 16) e))

pub uses_join : (x y : Movements) → uses (join x y) ≡ take 16 (all_pairs x y)
uses_join x y = used_filled 16 0 (all_pairs x y) (all_rise x y)

-- three tallies at once
module _ (x y z : Movements) where
  three : List Pair
  three = merged (all_pairs x y) (uses z)

  three_pairs : (join (join x y) z).pairs ≡ filled 16 three
  unfolding three
  three_pairs = ap (λ ps. filled 16 (merged ps (uses z))) (uses_join x y) ∙ filled_merged 16 (all_pairs x y) (uses z)

  three_rest : (join (join x y) z).rest ≡ stop (x.rest + y.rest + z.rest + spilled 16 three)
  unfolding three
  three_rest = omega (arith, ap (λ ps. spilled 16 (merged ps (uses z))) (uses_join x y), spilled_merged 16 (all_pairs x y) (uses z))

turned : (x y z : Movements) → three x y z ≡ three y z x
unfolding three
turned x y z =
    merged_assoc 0 (uses x) (uses y) (uses z) (uses_rise x) (uses_rise y) (uses_rise z)
    ∙ merged_comm 0 (uses x) (all_pairs y z) (uses_rise x) (all_rise y z)

pub assoc : (x y z : Movements) → join (join x y) z ≡ join x (join y z)
assoc x y z =
    movements_same _ _ (three_pairs x y z ∙ ap (filled 16) (turned x y z) ∙ sym (three_pairs y z x)) (omega (arith, three_rest x y z, three_rest y z x, ap (spilled 16) (turned x y z)))
    ∙ comm (join y z) x

none_spilled : (n : ℕ) (ps : List Pair) → length ps ≤ n → spilled n (used ps) ≡ 0
none_spilled zero [] h = refl
none_spilled zero (p ∷ ps) h = absurd (omega arith)
none_spilled (suc n) [] h = refl
none_spilled (suc n) (p ∷ ps) h = cond_both (p.key == 0) [] (p ∷ used ps) (λ xs. spilled (suc n) xs ≡ 0) (λ _. refl) (λ _. none_spilled n ps (omega arith))

pub unit : (x : Movements) → join empty x ≡ x
unit x =
    movements_same _ _ (ap (filled 16) (merged_none (uses x)) ∙ filled_uses x)
    (omega (arith, x.fits, ap (spilled 16) (merged_none (uses x)), none_spilled 16 x.pairs (omega (arith, x.full))))

none_merged : {xs ys zs : List Pair} → Merge xs ys zs → zs ≡ [] → xs ≡ []
none_merged none e = refl
none_merged (only r) e = absurd (omega (arith, ap length e))
none_merged (left h r) e = absurd (omega (arith, ap length e))
none_merged (right h r) e = absurd (omega (arith, ap length e))
none_merged (same h r) e = absurd (omega (arith, ap length e))

first_empty : (x y : Movements) → join x y ≡ empty → x ≡ empty
first_empty x y e =
    let m : all_pairs x y ≡ [] = filled_blank 15 _ (all_rise x y) (ap (λ v. v.pairs) e) in
    let u : uses x ≡ [] = none_merged (merges (uses x) (uses y)) m in
    movements_same _ _ (sym (filled_uses x) ∙ ap (filled 16) u) (omega (arith, ap (λ v. v.rest) e, x.fits))

pub both_empty : (x y : Movements) → join x y ≡ empty → (x ≡ empty) × (y ≡ empty)
both_empty x y e = (first_empty x y e, first_empty y x (comm y x ∙ e))

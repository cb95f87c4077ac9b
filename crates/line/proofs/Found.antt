-- What `find_map` answers over the items of an iterator.
use Rattle.std.proofs.Common.{◌≡◌, ℕ, zero, suc, ◌+◌, ◌<◌, List, [], ◌∷◌, ◌++◌, map, length, drop, Some, None, Option, option_map, sym, refl, ap, ◌∙◌, subst, arith}
use Rattle.std.proofs.lemmas.List.{take-append-drop}
use Rattle.std.proofs.lemmas.Iterator.{YieldsList}
use Rattle.std.proofs.lemmas.Iterator.Consumers.{YieldsList-so_far, YieldsList-end}
use Rattle.std.specs.Prelude.{IsTrue, IfSome, IsSomeAnd, MatchOption, slice_get}
use Rattle.std.specs.Fn.{Called}
use Rattle.std.specs.Iterator.{Yields}
use Rattle.std.specs.Iterator.Runs.{YieldsRun, SomeRun, AllItemsGive, IsFirstToGive}
use Rattle.std.specs.Option.{option_or}
use denote.Param.Members.{Mut}

-- the first answer over a list
abbrev pub first_answer : {B C : Type 0} → (B → Option C) → List B → Option C
first_answer h [] = None
first_answer h (y ∷ ys) = option_or (h y) (first_answer h ys)

module _ {A B C : Type 0} (v : A → B) (h : B → Option C) where
  none_over : (xs : List A) → ((j : ℕ) → IfSome (slice_get xs j) (λ x. h (v x) ≡ None)) → first_answer h (map v xs) ≡ None
  none_over [] q = refl
  none_over (x ∷ xs) q = ap (λ o. option_or o (first_answer h (map v xs))) (q 0) ∙ none_over xs (λ j. q (suc j))

  some_over : (xs : List A) (i : ℕ) (rest : List B) (y : C) → IsSomeAnd (slice_get xs i) (λ x. h (v x) ≡ Some y) → ((j : ℕ) → j < i → IsSomeAnd (slice_get xs j) (λ x. h (v x) ≡ None)) → first_answer h (map v xs ++ rest) ≡ Some y
  some_over [] i rest y a b = absurd a
  some_over (x ∷ xs) zero rest y a b = ap (λ o. option_or o (first_answer h (map v xs ++ rest))) a
  some_over (x ∷ xs) (suc i) rest y a b =
      ap (λ o. option_or o (first_answer h (map v xs ++ rest))) (b 0 (omega arith)) ∙ some_over xs i rest y a (λ j l. b (suc j) (omega arith))

module _ {A B F R C : Type 0} {v : A → B} {g : Mut F (A × Unit {0}) (Option R)} (w : R → C) (h : B → Option C) (f : F) (computes : (x : A) (r : Option R) (q : F) → Called g f (x, tt) r q → (q ≡ f) × (option_map w r ≡ h (v x))) where
  gave_none : (o : Option A) → IfSome o (λ x. Called g f (x, tt) None f) → IfSome o (λ x. h (v x) ≡ None)
  gave_none None q = q
  gave_none (Some x) q = sym (computes x None f q).1

  gave : (r : Option R) (o : Option A) → IsSomeAnd o (λ x. Called g f (x, tt) r f) → IsSomeAnd o (λ x. h (v x) ≡ option_map w r)
  gave r None q = q
  gave r (Some x) q = sym (computes x r f q).1

  -- the first answer over all that the iterator gives
  pub found : {S : Type 0} {steps : S → Option A → S → Type 0} (r : Option R) (s : S) (all : List B) → YieldsList steps v s all → SomeRun steps s (λ p. MatchOption r (IsTrue p.whole × AllItemsGive p g f None) (λ y. (i : ℕ) × (i < p.len) × (p.len ≡ i + 1) × IsFirstToGive p g f (Some y) None i)) → option_map w r ≡ first_answer h all
  unfolding YieldsRun
  found {steps = steps} None s all e (p, at, (whole, none)) =
      let drained = p.gave.0 in
      let last = drained.2 whole in
      let ended = YieldsList-end e p.items drained.0 (subst (λ u. Yields steps u p.items drained.0) at drained.1) None last.0 refl last.1 in
      let each = none (λ a r q c. (computes a.0 r q c).0) in
      sym (ap (first_answer h) (sym ended.0) ∙ none_over v h p.items (λ j. gave_none (slice_get p.items j) (subst (λ o. IfSome o (λ x. Called g f (x, tt) None f)) (p.gave.1 j) (each j))))
  found {steps = steps} (Some y) s all e (p, at, (i, low, long, first)) =
      let drained = p.gave.0 in
      let so_far = YieldsList-so_far e p.items drained.0 (subst (λ u. Yields steps u p.items drained.0) at drained.1) in
      let n = length p.items in
      let split : map v p.items ++ drop n all ≡ all = ap (λ xs. xs ++ drop n all) so_far ∙ take-append-drop n all in
      let hits = first (λ a r q c. (computes a.0 r q c).0) in
      sym (
      ap (first_answer h) (sym split)
      ∙ some_over v h p.items i (drop n all) (w y)
      (gave (Some y) (slice_get p.items i) (subst (λ o. IsSomeAnd o (λ x. Called g f (x, tt) (Some y) f)) (p.gave.1 i) hits.0))
      (λ j l. gave None (slice_get p.items j) (subst (λ o. IsSomeAnd o (λ x. Called g f (x, tt) None f)) (p.gave.1 j) (hits.1 j l)))
      )

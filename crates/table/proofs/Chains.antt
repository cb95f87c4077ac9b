-- What `flatten` takes from a cell, its record or nothing, and what `reduce` makes of calls that are known.
use Rattle.std.proofs.Common.{◌≡◌, Bool, true, false, cond, List, [], ◌∷◌, length, Some, None, Option, Bor, sym, refl, ap, ◌∙◌, subst}
use Rattle.std.specs.Prelude.{IsTrue}
use Rattle.std.specs.Bool.{MatchBool}
use Rattle.std.specs.Option.{option_to_list, MatchOption}
use Rattle.std.specs.List.{FoldsTo, reduce}
use Rattle.std.specs.Fn.{Called}
use Rattle.std.specs.Iterator.{Drains, ReducesItems}
use denote.Param.Members.{Mut}
use Rattle.std.specs.Iterator.Adapters.{option_iter_item, option_iter_done, option_iter_steps}
use Rattle.std.proofs.lemmas.Iterator.{YieldsList}
use Rattle.std.proofs.lemmas.Iterator.Consumers.{YieldsList-from_shown, reduce_from_yields_List}
use Rattle.std.proofs.lemmas.Option.{none-some}

abbrev shown : {A : Type 0} → Bool → Option A → List A
shown done o = cond done [] (option_to_list o)

shown_none : {A : Type 0} (done : Bool) (o : Option A) → MatchBool done (◌≡◌ {A = Option (Bor A)} None None) (None ≡ o) → length (shown done o) ≡ 0
shown_none true o h = refl
shown_none false None h = refl
shown_none false (Some x) h = absurd (none-some x h)

shown_some : {A : Type 0} (done end : Bool) (o p : Option A) (x : Bor A) → IsTrue end → MatchBool done (Some x ≡ None) (Some x.now ≡ o) → shown done o ≡ x.now ∷ shown end p
shown_some true end o p x t h = absurd (none-some x (sym h))
shown_some false end o p x t h = let e : shown end p ≡ [] = ap (λ b. shown b p) t in ap option_to_list (sym h) ∙ ap (λ z. x.now ∷ z) (sym e)

pub YieldsList-from_cell : {A : Type 0} (s : _) (o : Option A) → option_iter_item s ≡ o → option_iter_done s ≡ false → YieldsList option_iter_steps (λ y. y.now) s (option_to_list o)
YieldsList-from_cell s o e d = subst (YieldsList option_iter_steps (λ y. y.now) s) (ap (λ b. shown b (option_iter_item s)) d ∙ ap option_to_list e) (YieldsList-from_shown option_iter_steps (λ y. y.now) (λ t. shown (option_iter_done t) (option_iter_item t)) (λ s t h. shown_none (option_iter_done s) (option_iter_item s) h.1) (λ s x t h. shown_some (option_iter_done s) (option_iter_done t) (option_iter_item s) (option_iter_item t) x h.0 h.1) s)

-- `reduce`, where each call answers what f gives and the value that is called stays
module _ {F A : Type 0} (g : Mut F (A × (A × Unit {0})) A) (f : A → A → A) {h : F} (calls : (a x r : A) (q : F) → Called g h (a, (x, tt)) r q → (q ≡ h) × (r ≡ f a x)) where
  by_f : (xs : List A) (p q : F × A) → p.0 ≡ h → FoldsTo {P = F × A} (λ a x b. Called g a.0 (a.1, (x, tt)) b.1 b.0) p xs q → FoldsTo (λ p z c. c ≡ f p z) p.1 xs q.1
  by_f [] p q e d = ap (λ w. w.1) d
  by_f (x ∷ xs) p q e d = let m = calls p.1 x d.0.1 d.0.0 (subst (λ w. Called g w (p.1, (x, tt)) d.0.1 d.0.0) e d.1) in (d.0.1, m.1, by_f xs d.0 q m.0 d.2)

  turns : {S : Type 0} (steps : S → Option A → S → Type 0) (s : S) (r : Option A) → ReducesItems steps g s h r → MatchOption r (Drains steps s []) (λ y. (x : A) × (xs : List A) × Drains steps s (x ∷ xs) × FoldsTo (λ p z c. c ≡ f p z) x xs y)
  turns steps s None d = d
  turns steps s (Some y) d = (d.0, d.1, d.3, by_f d.1 (h, d.0) (d.2, y) refl d.4)

  pub reduce_from_calls : {S : Type 0} {steps : S → Option A → S → Type 0} {all : List A} (s : S) (r : Option A) → ReducesItems steps g s h r → YieldsList steps (λ x. x) s all → r ≡ reduce f all
  reduce_from_calls {steps = steps} s r d = reduce_from_yields_List f s r (turns steps s r d)

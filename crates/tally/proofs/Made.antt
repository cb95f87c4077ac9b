-- What an array holds that was made from a function of the index.
use Rattle.std.proofs.Common.{◌≡◌, ℕ, zero, suc, ◌+◌, ◌<◌, ◌≤◌, List, get_or, subst, ap, ◌∙◌, sym, arith, ⊎_elim}
use denote.Param.Members.{Mut, Called}
use Rattle.std.specs.List.{range_with_len}
use Rattle.std.specs.Prelude.{map}
use Rattle.std.specs.Array.{IsFromFnResult, IsFromFnResultFrom}
use Rattle.std.proofs.lemmas.List.FromFn.{fill_by_all}
use Rattle.std.proofs.lemmas.Bool.{cases_lt}

module _ {F B : Type 0} (g : Mut F (ℕ × Unit {0}) B) (f : F) (value : ℕ → B) (one : (k : ℕ) (y : B) (q : F) → Called g f (k, tt) y q → (y ≡ value k) × (q ≡ f)) where
  made_from : (ys : List B) (i n : ℕ) → IsFromFnResultFrom g f ys i n → (k : ℕ) (d : B) → i ≤ k → k < i + n → get_or ys k d ≡ value k
  made_from ys i zero m k d h l = absurd (omega arith)
  made_from ys i (suc n) m k d h l =
      let o = one i m.1 m.0 m.3 in
      ⊎_elim (λ (s : i < k). made_from ys (i + 1) n (subst (λ q. IsFromFnResultFrom g q ys (i + 1) n) o.1 m.4) k d (omega arith) (omega arith))
      (λ (s : k ≤ i). let e : k ≡ i = omega arith in ap (λ j. get_or ys j d) e ∙ m.2.1 d ∙ o.0 ∙ ap value (sym e))
      (cases_lt i k)

  -- it holds the function's value at each index
  pub made_at : (ys : List B) (n : ℕ) (d : B) → IsFromFnResult g f ys n → (k : ℕ) → k < n → get_or ys k d ≡ value k
  made_at ys n d m k h = made_from ys 0 n m.each k d (omega arith) (omega arith)

  pub made : (ys : List B) (n : ℕ) (d : B) → IsFromFnResult g f ys n → ys ≡ map value (range_with_len 0 n)
  made ys n d m = fill_by_all value ys n d m.long (made_at ys n d m)

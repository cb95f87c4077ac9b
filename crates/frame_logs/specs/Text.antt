-- The text of a line: a carriage return at its end does not belong to it.
use Rattle.std.specs.Prelude.{◌≡◌, ℕ, Bool, true, false, cond, if◌then◌else◌, List, [], ◌∷◌, ◌++◌, ◌==◌, refl}
use Rattle.std.proofs.Common.{sym, ap, ◌∙◌, arith}
use Rattle.std.proofs.lemmas.Bool.{eqb-true}

abbrev pub carriage_return : ℕ
carriage_return = 13

-- a carriage return stands at the end
abbrev pub ends_in_return : List ℕ → Bool
ends_in_return [] = false
ends_in_return (b ∷ []) = b == carriage_return
ends_in_return (b ∷ c ∷ text) = ends_in_return (c ∷ text)

-- the text without it
abbrev pub trimmed : List ℕ → List ℕ
trimmed [] = []
trimmed (b ∷ []) = if b == carriage_return then [] else b ∷ []
trimmed (b ∷ c ∷ text) = b ∷ trimmed (c ∷ text)

pub ends_more : (text : List ℕ) (b : ℕ) → ends_in_return (text ++ b ∷ []) ≡ (b == carriage_return)
ends_more [] b = refl
ends_more (x ∷ []) b = refl
ends_more (x ∷ y ∷ text) b = ends_more (y ∷ text) b

front : (x : ℕ) (t : Bool) (xs ys : List ℕ) → x ∷ cond t xs ys ≡ cond t (x ∷ xs) (x ∷ ys)
front x true xs ys = refl
front x false xs ys = refl

pub trimmed_more : (text : List ℕ) (b : ℕ) → trimmed (text ++ b ∷ []) ≡ cond (b == carriage_return) text (text ++ b ∷ [])
trimmed_more [] b = refl
trimmed_more (x ∷ []) b = front x (b == carriage_return) [] (b ∷ [])
trimmed_more (x ∷ y ∷ text) b = ap (λ z. x ∷ z) (trimmed_more (y ∷ text) b) ∙ front x (b == carriage_return) (y ∷ text) (y ∷ (text ++ b ∷ []))

-- a text that does not end so is whole
pub whole : (text : List ℕ) → ends_in_return text ≡ false → trimmed text ≡ text
whole [] e = refl
whole (b ∷ []) e = ap (λ t. cond t [] (b ∷ [])) e
whole (b ∷ c ∷ text) e = ap (λ z. b ∷ z) (whole (c ∷ text) e)

-- one that ends so has it behind the rest
last_one : (b : ℕ) (t : Bool) → (b == carriage_return) ≡ t → t ≡ true → cond t [] (b ∷ []) ++ carriage_return ∷ [] ≡ b ∷ []
last_one b true e p = ap (λ z. z ∷ []) (sym (eqb-true b carriage_return e))
last_one b false e p = let z : ◌≡◌ {A = ℕ} 0 1 = cc in absurd (omega arith)

pub rejoined : (text : List ℕ) → ends_in_return text ≡ true → trimmed text ++ carriage_return ∷ [] ≡ text
rejoined [] e = let z : ◌≡◌ {A = ℕ} 0 1 = cc in absurd (omega arith)
rejoined (b ∷ []) e = last_one b (b == carriage_return) refl e
rejoined (b ∷ c ∷ text) e = ap (λ z. b ∷ z) (rejoined (c ∷ text) e)

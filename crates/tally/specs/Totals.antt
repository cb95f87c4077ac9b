-- What every lawful kind has: totals that no order or grouping changes, and one writing for each tally.
use Rattle.std.specs.Prelude.{◌≡◌, List, [], ◌∷◌, ◌++◌, Ok, Result, refl}
use Rattle.std.proofs.Common.{sym, ap, ◌∙◌}
use Rattle.tally.specs.declared.fault.Fault.{Fault}
use Rattle.tally.specs.Kind.{Kind, Lawful, joins}

-- a total is the join of the totals of its parts, and any tally of it may be taken first
pub record Total {V : Type 0} (kind : Kind V) : Type 0 where
  pub of_parts : (xs ys : List V) → joins kind (xs ++ ys) ≡ kind.join (joins kind xs) (joins kind ys)
  pub any_first : (xs ys : List V) (x : V) → joins kind (xs ++ x ∷ ys) ≡ kind.join x (joins kind (xs ++ ys))

-- two tallies with one writing are equal
abbrev pub OneWriting : {V : Type 0} → Kind V → Type 0
OneWriting {V} kind = (x y : V) → kind.bytes x ≡ kind.bytes y → x ≡ y

module _ {V : Type 0} {kind : Kind V} (laws : Lawful kind) where
  -- of three, the first two may change places
  pub swap : (x y z : V) → kind.join x (kind.join y z) ≡ kind.join y (kind.join x z)
  swap x y z = sym (laws.assoc x y z) ∙ ap (λ v. kind.join v z) (laws.comm x y) ∙ laws.assoc y x z

  pub joins_parts : (xs ys : List V) → joins kind (xs ++ ys) ≡ kind.join (joins kind xs) (joins kind ys)
  joins_parts [] ys = sym (laws.unit (joins kind ys))
  joins_parts (x ∷ xs) ys = ap (kind.join x) (joins_parts xs ys) ∙ sym (laws.assoc x (joins kind xs) (joins kind ys))

  pub joins_first : (xs ys : List V) (x : V) → joins kind (xs ++ x ∷ ys) ≡ kind.join x (joins kind (xs ++ ys))
  joins_first [] ys x = refl
  joins_first (y ∷ xs) ys x = ap (kind.join y) (joins_first xs ys x) ∙ swap y x (joins kind (xs ++ ys))

  pub total : Total kind
  total = record { of_parts = joins_parts; any_first = joins_first }

  pub one_writing : OneWriting kind
  one_writing x y e = let h : ◌≡◌ {A = Result V Fault} (Ok x) (Ok y) = sym (laws.reads_back x) ∙ ap kind.read e ∙ laws.reads_back y in cc

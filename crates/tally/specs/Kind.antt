-- What a tally kind is, and when it is lawful.
use Rattle.std.specs.Prelude.{◌≡◌, ℕ, ◌<◌, ◌≤◌, Bool, true, List, [], ◌∷◌, length, Ok, Err, Result}
use Rattle.big_endian.specs.BigEndian.{Octets}
use Rattle.tally.specs.declared.fault.Fault.{Fault}

-- a tally kind whose values are of the type V
pub record Kind (V : Type 0) : Type 0 where
  -- the byte that names the kind in frames and setups
  pub code : ℕ
  -- the tally of nothing
  pub empty : V
  -- two tallies as one
  pub join : V → V → V
  -- the test for empty
  pub is_empty : V → Bool
  -- how many bytes a tally is written in
  pub width : ℕ
  pub bytes : V → List ℕ
  -- the tally that bytes write, or their fault
  pub read : List ℕ → Result V Fault

pub record Lawful {V : Type 0} (kind : Kind V) : Type 0 where
  pub code_byte : kind.code < 256
  pub assoc : (x y z : V) → kind.join (kind.join x y) z ≡ kind.join x (kind.join y z)
  pub comm : (x y : V) → kind.join x y ≡ kind.join y x
  -- joining empty changes nothing
  pub unit : (x : V) → kind.join kind.empty x ≡ x
  -- a join is empty only when both parts are
  pub both_empty : (x y : V) → kind.join x y ≡ kind.empty → (x ≡ kind.empty) × (y ≡ kind.empty)
  -- the test says yes of empty, and of nothing else
  pub empty_found : kind.is_empty kind.empty ≡ true
  pub only_empty : (x : V) → kind.is_empty x ≡ true → x ≡ kind.empty
  pub width_min : 1 ≤ kind.width
  pub width_max : kind.width ≤ 132
  -- a tally is written in as many bytes as the kind is wide
  pub written : (x : V) → length (kind.bytes x) ≡ kind.width
  pub octets : (x : V) → Octets (kind.bytes x)
  -- reading what was written gives it back
  pub reads_back : (x : V) → kind.read (kind.bytes x) ≡ Ok x
  -- bytes are accepted only as the writing of the tally that they give
  pub reads_only : (bytes : List ℕ) → length bytes ≡ kind.width → Octets bytes → (x : V) → kind.read bytes ≡ Ok x → kind.bytes x ≡ bytes
  -- a fault lies in the bytes that have it
  pub fault_within : (bytes : List ℕ) → length bytes ≡ kind.width → (fault : Fault) → kind.read bytes ≡ Err fault → fault.place < kind.width

-- the join of all tallies of a list; of none, empty
abbrev pub joins : {V : Type 0} → Kind V → List V → V
joins kind [] = kind.empty
joins kind (x ∷ xs) = kind.join x (joins kind xs)

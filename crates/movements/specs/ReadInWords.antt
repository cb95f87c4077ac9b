-- Reading in words: the fault that bytes have, and that a tally has none.
use Rattle.std.specs.Prelude.{◌≡◌, ℕ, ◌*◌, ◌<◌, List, Err}
use Rattle.std.proofs.Common.{sym, ap, ◌∙◌, arith}
use Rattle.tally.specs.declared.fault.Fault.{Fault}
use Rattle.movements.specs.declared.fault.PairFault.{PairFault}
use Rattle.movements.specs.declared.kept.Movements.{Movements}
use Rattle.movements.specs.Faults.{number, Found}
use Rattle.movements.specs.FirstFault.{Has, First, first_in_words, words_of_first, none_in_words, none_found}
use Rattle.movements.specs.Coding.{pairs_in, reported, read, read_err, from_err}

-- a pair of the bytes has the fault, no pair before it has one, and the place is the pair's first byte
pub record FirstIn (bytes : List ℕ) (f : Fault) : Type 0 where
  pub pair : ℕ
  pub wrong : PairFault
  pub first : First (pairs_in bytes) pair wrong
  pub number_is : f.number ≡ number wrong
  pub place_is : f.place ≡ 8 * pair

pub fault_is_first : (bytes : List ℕ) (f : Fault) → read bytes ≡ Err f → FirstIn bytes f
fault_is_first b f e =
    let v = from_err b f e in
    record {
      pair = v.0.pair;
      wrong = v.0.fault;
      first = first_in_words (pairs_in b) v.0 v.1;
      number_is = ap (λ g. g.number) v.2;
      place_is = ap (λ g. g.place) v.2;
    }

fault_same : (f g : Fault) → f.number ≡ g.number → f.place ≡ g.place → f ≡ g
fault_same f g p q = λ i. record { number = p i; place = q i }

pub first_is_fault : (bytes : List ℕ) (f : Fault) → FirstIn bytes f → read bytes ≡ Err f
first_is_fault b f w =
    let v : Found = record { pair = w.pair; fault = w.wrong } in
    read_err b v (words_of_first (pairs_in b) w.pair w.wrong w.first) ∙ ap Err (fault_same (reported v) f (sym w.number_is) (sym w.place_is))

pub tally_has_none : (x : Movements) (i : ℕ) (f : PairFault) → i < 16 → Has x.pairs i f → ⊥
tally_has_none x i f l = none_in_words x.pairs (none_found _ x.faultless) i f (omega (arith, x.full))

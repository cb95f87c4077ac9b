-- A movements tally in bytes: sixteen pairs, then the rest, each number in four bytes.
use Rattle.std.specs.Prelude.{◌≡◌, ℕ, zero, suc, ◌+◌, ◌*◌, ◌<◌, ◌≤◌, List, [], ◌∷◌, ◌++◌, map, length, take, drop, is_some, Some, None, Ok, Err, Option, Result, refl}
use Rattle.std.proofs.Common.{sym, ap, ap₂, ◌∙◌, append_assoc, arith, length-append, length-drop, take-add}
use borrow.Rule.Slice.PartMut.{put_mid}
use Rattle.std.specs.List.{range_with_len, flat_map}
use Rattle.std.proofs.lemmas.List.FromFn.{length-map-range_with_len}
use Rattle.std.proofs.lemmas.List.{take_all, take-append-drop, drop-drop, drop_at}
use Rattle.big_endian.specs.BigEndian.{Octets, four, four_bytes, four_of_bytes, bytes_of_four, four_small, four_drop, octets_four, octets_append, octets_drop, octets_nil}
use Rattle.tally.specs.declared.fault.Fault.{Fault}
use Rattle.movements.specs.declared.kept.Movements.{Movements}
use Rattle.movements.specs.declared.pair.Pair.{Pair}
use Rattle.movements.specs.Pairs.{stop}
use Rattle.movements.specs.Merging.{pair_same}
use Rattle.movements.specs.Faults.{number, Found, first_fault, Small}
use Rattle.movements.specs.FirstFault.{found_at, none_found}
use Rattle.movements.specs.Join.{movements_same}

abbrev pub pair_bytes : Pair → List ℕ
pair_bytes p = four_bytes p.key ++ four_bytes p.count

-- bytes with pair i written into its eight bytes
abbrev pub with_pair_at : List ℕ → ℕ → Pair → List ℕ
with_pair_at b i p = put_mid (8 * i + 4) 4 (put_mid (8 * i) 4 b (four_bytes p.key)) (four_bytes p.count)

abbrev pub bytes_of : Movements → List ℕ
bytes_of x = flat_map pair_bytes x.pairs ++ four_bytes x.rest

-- pair i of those that bytes write; no four bytes write a number past the stop
abbrev pub pair_at : List ℕ → ℕ → Pair
pair_at b i = record { key = stop (four b (8 * i)); count = stop (four b (8 * i + 4)) }

-- n pairs from pair i on
abbrev pub pairs_from : List ℕ → ℕ → ℕ → List Pair
pairs_from b i n = map (pair_at b) (range_with_len i n)

-- the sixteen pairs that bytes write
unfoldable pub pairs_in : List ℕ → List Pair
pairs_in b = pairs_from b 0 16

-- and the rest
abbrev pub rest_in : List ℕ → ℕ
rest_in b = stop (four b 128)

-- a fault as a reader reports it: its place is the first byte of the pair
abbrev pub reported : Found → Fault
reported f = record { number = number f.fault; place = 8 * f.pair }

small_from : (b : List ℕ) (i n : ℕ) → Small (pairs_from b i n)
small_from b i zero k = (omega arith, omega arith)
small_from b i (suc n) zero = (omega arith, omega arith)
small_from b i (suc n) (suc k) = small_from b (i + 1) n k

pub length_pairs_in : (b : List ℕ) → length (pairs_in b) ≡ 16
unfolding pairs_in
length_pairs_in b = length-map-range_with_len (pair_at b) 0 16

pub small_pairs_in : (b : List ℕ) → Small (pairs_in b)
unfolding pairs_in
small_pairs_in b = small_from b 0 16

-- the tally that bytes write whose pairs have no fault
abbrev pub tally_in : (b : List ℕ) → first_fault (pairs_in b) ≡ None → Movements
tally_in b e = record { pairs = pairs_in b; rest = rest_in b; full = length_pairs_in b; small = small_pairs_in b; faultless = ap is_some e; fits = omega arith }

-- the tally where no fault was found, else the fault
abbrev pub result : (b : List ℕ) (found : Option Found) → first_fault (pairs_in b) ≡ found → Result Movements Fault
result b None e = Ok (tally_in b e)
result b (Some found) e = Err (reported found)

-- the tally that bytes write, or their first fault
abbrev pub read : List ℕ → Result Movements Fault
read b = result b (first_fault (pairs_in b)) refl

result_ok : (b : List ℕ) (found : Option Found) (e : first_fault (pairs_in b) ≡ found) (x : Movements) → found ≡ None → x.pairs ≡ pairs_in b → x.rest ≡ rest_in b → result b found e ≡ Ok x
result_ok b None e x h p r = ap Ok (movements_same _ _ (sym p) (sym r))
result_ok b (Some found) e x h p r = let z : ◌≡◌ {A = ℕ} 0 1 = cc in absurd (omega arith)

pub read_ok : (b : List ℕ) (x : Movements) → first_fault (pairs_in b) ≡ None → x.pairs ≡ pairs_in b → x.rest ≡ rest_in b → read b ≡ Ok x
read_ok b x = result_ok b _ refl x

result_err : (b : List ℕ) (found : Option Found) (e : first_fault (pairs_in b) ≡ found) (f : Found) → found ≡ Some f → result b found e ≡ Err (reported f)
result_err b None e f h = let z : ◌≡◌ {A = ℕ} 0 1 = cc in absurd (omega arith)
result_err b (Some found) e f h = let g : found ≡ f = cc in ap (λ v. Err (reported v)) g

pub read_err : (b : List ℕ) (f : Found) → first_fault (pairs_in b) ≡ Some f → read b ≡ Err (reported f)
read_err b f = result_err b _ refl f

result_from_ok : (b : List ℕ) (found : Option Found) (e : first_fault (pairs_in b) ≡ found) (x : Movements) → result b found e ≡ Ok x → (x.pairs ≡ pairs_in b) × (x.rest ≡ rest_in b)
result_from_ok b None e x h = let v : tally_in b e ≡ x = cc in (ap (λ y. y.pairs) (sym v), ap (λ y. y.rest) (sym v))
result_from_ok b (Some found) e x h = let z : ◌≡◌ {A = ℕ} 0 1 = cc in absurd (omega arith)

pub from_ok : (b : List ℕ) (x : Movements) → read b ≡ Ok x → (x.pairs ≡ pairs_in b) × (x.rest ≡ rest_in b)
from_ok b x = result_from_ok b _ refl x

result_from_err : (b : List ℕ) (found : Option Found) (e : first_fault (pairs_in b) ≡ found) (f : Fault) → result b found e ≡ Err f → (v : Found) × (found ≡ Some v) × (f ≡ reported v)
result_from_err b None e f h = let z : ◌≡◌ {A = ℕ} 0 1 = cc in absurd (omega arith)
result_from_err b (Some found) e f h = (found, refl, cc)

pub from_err : (b : List ℕ) (f : Fault) → read b ≡ Err f → (v : Found) × (first_fault (pairs_in b) ≡ Some v) × (f ≡ reported v)
from_err b f = result_from_err b _ refl f

-- how many bytes are written, and that they are bytes
pub length_pairs : (ps : List Pair) → length (flat_map pair_bytes ps) ≡ 8 * length ps
length_pairs [] = refl
length_pairs (p ∷ ps) = omega (arith, length_pairs ps)

pub written : (x : Movements) → length (bytes_of x) ≡ 132
written x = omega (arith, length-append (flat_map pair_bytes x.pairs) (four_bytes x.rest), length_pairs x.pairs, x.full)

octets_pairs : (ps : List Pair) → Octets (flat_map pair_bytes ps)
octets_pairs [] = octets_nil
octets_pairs (p ∷ ps) = octets_append (pair_bytes p) (flat_map pair_bytes ps) (octets_append (four_bytes p.key) (four_bytes p.count) (octets_four p.key) (octets_four p.count)) (octets_pairs ps)

pub octets : (x : Movements) → Octets (bytes_of x)
octets x = octets_append (flat_map pair_bytes x.pairs) (four_bytes x.rest) (octets_pairs x.pairs) (octets_four x.rest)

-- the pairs from pair i + 1 on are those of the bytes after the first pair, from pair i on
after_first : (b : List ℕ) (i n : ℕ) → pairs_from b (i + 1) n ≡ pairs_from (drop 8 b) i n
after_first b i zero = refl
after_first b i (suc n) =
    let k : four b (8 * (i + 1)) ≡ four (drop 8 b) (8 * i) = ap (four b) (omega arith) ∙ sym (four_drop b 8 (8 * i)) in
    let c : four b (8 * (i + 1) + 4) ≡ four (drop 8 b) (8 * i + 4) = ap (four b) (omega arith) ∙ sym (four_drop b 8 (8 * i + 4)) in
    ap₂ ◌∷◌ (pair_same _ _ (ap stop k) (ap stop c)) (after_first b (i + 1) n)

-- reading the pairs that were written
pairs_back : (ps : List Pair) (q : List ℕ) → Small ps → pairs_from (flat_map pair_bytes ps ++ q) 0 (length ps) ≡ ps
pairs_back [] q s = refl
pairs_back (p ∷ ps) q s =
    let b = flat_map pair_bytes (p ∷ ps) ++ q in
    let k = four_of_bytes p.key (four_bytes p.count ++ (flat_map pair_bytes ps ++ q)) (s 0).0 in
    let c = four_of_bytes p.count (flat_map pair_bytes ps ++ q) (s 0).1 in
    ap₂ ◌∷◌ (pair_same (pair_at b 0) p (omega (arith, k, (s 0).0)) (omega (arith, c, (s 0).1))) (after_first b 0 (length ps) ∙ pairs_back ps q (λ i. s (suc i)))

rest_back : (x : Movements) → rest_in (bytes_of x) ≡ x.rest
rest_back x =
    let ps = flat_map pair_bytes x.pairs in
    let e = ap (λ b. four b 0) (drop_at ps (four_bytes x.rest) 128 (omega (arith, length_pairs x.pairs, x.full))) in
    omega (arith, four_drop (bytes_of x) 128 0, e, four_of_bytes x.rest [] x.fits, x.fits)

pub reads_back : (x : Movements) → read (bytes_of x) ≡ Ok x
unfolding pairs_in
reads_back x =
    let p : pairs_in (bytes_of x) ≡ x.pairs = ap (pairs_from (bytes_of x) 0) (sym x.full) ∙ pairs_back x.pairs (four_bytes x.rest) x.small in
    read_ok (bytes_of x) x (ap first_fault p ∙ none_found _ x.faultless) (sym p) (sym (rest_back x))

-- writing what four bytes say gives them back
four_back : (b : List ℕ) (at : ℕ) → at + 4 ≤ length b → Octets b → four_bytes (stop (four b at)) ≡ take 4 (drop at b)
four_back b at h o = let s : stop (four b at) ≡ four b at = omega (arith, four_small b at o) in ap four_bytes s ∙ bytes_of_four b at h o

-- and what pairs say
pairs_only : (n : ℕ) (b : List ℕ) → 8 * n ≤ length b → Octets b → flat_map pair_bytes (pairs_from b 0 n) ≡ take (8 * n) b
pairs_only zero b h o = refl
pairs_only (suc n) b h o =
    let e : 4 + (4 + 8 * n) ≡ 8 * suc n = omega arith in
    ap₂ (λ x y. (x ++ four_bytes (stop (four b 4))) ++ y) (four_back b 0 (omega arith) o) (ap (flat_map pair_bytes) (after_first b 0 n) ∙ pairs_only n (drop 8 b) (omega (arith, length-drop 8 b)) (octets_drop 8 b o))
    ∙ ap (λ x. (take 4 b ++ x) ++ take (8 * n) (drop 8 b)) (four_back b 4 (omega arith) o)
    ∙ append_assoc (take 4 b) (take 4 (drop 4 b)) (take (8 * n) (drop 8 b))
    ∙ ap (λ z. take 4 b ++ (take 4 (drop 4 b) ++ take (8 * n) z)) (sym (drop-drop 4 4 b))
    ∙ ap (λ z. take 4 b ++ z) (sym (take-add 4 (8 * n) (drop 4 b)))
    ∙ sym (take-add 4 (4 + 8 * n) b)
    ∙ ap (λ z. take z b) e

pub reads_only : (b : List ℕ) → length b ≡ 132 → Octets b → (x : Movements) → read b ≡ Ok x → bytes_of x ≡ b
unfolding pairs_in
reads_only b l o x e =
    let v = from_ok b x e in
    let n = length-drop 128 b in
    ap₂ (λ ps r. flat_map pair_bytes ps ++ four_bytes r) v.0 v.1
    ∙ ap₂ ◌++◌ (pairs_only 16 b (omega arith) o) (four_back b 128 (omega arith) o ∙ take_all 4 (drop 128 b) (omega arith))
    ∙ take-append-drop 128 b

pub fault_within : (b : List ℕ) (f : Fault) → read b ≡ Err f → f.place < 132
fault_within b f e = let v = from_err b f e in let w = found_at (pairs_in b) 0 None v.0 v.1 in omega (arith, w.within, w.pair_is, length_pairs_in b, ap (λ g. g.place) v.2)

-- What the loops over the bands keep, and what they end with.
use Rattle.std.proofs.Common.{◌≡◌, ℕ, zero, suc, ◌+◌, ◌-◌, ◌*◌, ◌<◌, ◌≤◌, true, false, cond, eqb, leb, List, [], ◌++◌, length, get_or, take, drop, set, replicate, sym, refl, ap, ◌∙◌, ap₂, ⊎_elim, arith, length-drop}
use borrow.Rule.Slice.PartMut.{put_mid}
use Rattle.std.specs.List.{flat_map}
use Rattle.std.proofs.lemmas.List.{get_or-set_same, get_or-set_other, get_or-replicate, take_more, drop-drop, length-take-le, flat_map_more}
use Rattle.std.specs.List.Sorted.{IsPartitionedBy, IsPartitionPoint}
use Rattle.std.proofs.lemmas.Grind.{get_or_default_zero}
use Rattle.std.proofs.lemmas.Bool.{eq-eqb, ne_eqb, cases_eq, cases_lt, le-leb, leb-true, leb-false}
use Rattle.big_endian.specs.BigEndian.{four_bytes}
use Rattle.big_endian.proofs.Parts.{put_next}
use Rattle.tally.specs.Queues.{edges, stop, LastBand, edges_rise, band_of, band_is_last, one_last_band, length_fours}

-- the edges rise, so those that a queue reaches come first
pub edges_split : (n : ℕ) → IsPartitionedBy (λ e. leb e n) edges
edges_split n i j d h l e = le-leb _ _ (omega (arith, leb-true _ _ e, edges_rise i j h l, get_or_default_zero edges i d (omega arith), get_or_default_zero edges j d l))

-- where they end is past the band
pub last_before : (n i : ℕ) → i ≤ 16 → IsPartitionPoint (λ e. leb e n ≡ true) (λ e. leb e n ≡ false) edges i → (0 < i) × LastBand n (i - 1)
last_before n i h p =
    let some : 0 < i = ⊎_elim (λ (s : 0 < i). s) (λ (z : i ≤ 0). absurd (omega (arith, leb-false _ _ (p.1 0 0 z (omega arith))))) (cases_lt 0 i) in
    (some, record { within = omega arith; reached = leb-true _ _ (p.0 (i - 1) 0 (omega arith) (omega arith)); last = λ j k l. leb-false _ _ (p.1 j 0 (omega arith) l) })

-- the first edges are 0 to 6
first_edge : (k : ℕ) → k ≤ 6 → get_or edges k 0 ≡ k
first_edge zero h = refl
first_edge (suc zero) h = refl
first_edge (suc (suc zero)) h = refl
first_edge (suc (suc (suc zero))) h = refl
first_edge (suc (suc (suc (suc zero)))) h = refl
first_edge (suc (suc (suc (suc (suc zero))))) h = refl
first_edge (suc (suc (suc (suc (suc (suc zero)))))) h = refl
first_edge (suc (suc (suc (suc (suc (suc (suc k))))))) h = absurd (omega arith)

pub is_band : (n at : ℕ) → LastBand n at → at ≡ band_of n
is_band n at l = one_last_band n at (band_of n) l (band_is_last n)

-- a short queue has the band of its own length
pub short_band : (n : ℕ) → n ≤ 6 → n ≡ band_of n
short_band n h =
    is_band n n
    (record {
      within = omega arith;
      reached = omega (arith, first_edge n h);
      last = λ j k l. ⊎_elim (λ (s : j < 7). omega (arith, first_edge j (omega arith))) (λ (s : 7 ≤ j). omega (arith, edges_rise 7 j s l)) (cases_lt j 7);
    })

-- one count of 1 among zeros
pub one_at : (k band : ℕ) → k < 16 → band < 16 → get_or (set (replicate 16 0) band 1) k 0 ≡ stop (cond (eqb k band) 1 0)
one_at k band h l =
    let zeros : List ℕ = replicate 16 0 in
    ⊎_elim (λ (e : k ≡ band). rw (eq-eqb k band e) (ap (λ j. get_or (set zeros band 1) j 0) e ∙ get_or-set_same zeros band 1 0 l))
    (λ (d : k ≡ band → ⊥). rw (ne_eqb k band d) (get_or-set_other zeros band k 1 0 d ∙ get_or-replicate 16 k 0 0 h))
    (cases_eq k band)

-- writing the counts one after another
fours_more : (ns : List ℕ) (i : ℕ) → i < length ns → flat_map four_bytes (take (i + 1) ns) ≡ flat_map four_bytes (take i ns) ++ four_bytes (get_or ns i 0)
fours_more ns i h = ap (flat_map four_bytes) (take_more ns i 0 h) ∙ sym (flat_map_more four_bytes [] (take i ns) (get_or ns i 0))

pub write_more : (ns before out : List ℕ) (i : ℕ) → i < length ns → 4 * i + 4 ≤ length before → out ≡ flat_map four_bytes (take i ns) ++ drop (4 * i) before → put_mid (4 * i) 4 out (four_bytes (get_or ns i 0)) ≡ flat_map four_bytes (take (i + 1) ns) ++ drop (4 * (i + 1)) before
write_more ns before out i h l e =
    let front = flat_map four_bytes (take i ns) in
    let next = four_bytes (get_or ns i 0) in
    let n : length front ≡ 4 * i = omega (arith, length_fours (take i ns), length-take-le i ns (omega arith)) in
    ap (λ z. put_mid (4 * i) 4 z next) e ∙ put_next front (drop (4 * i) before) next (4 * i) 4 n refl (omega (arith, length-drop (4 * i) before))
    ∙ ap₂ ◌++◌ (sym (fours_more ns i h)) (drop-drop 4 (4 * i) before ∙ ap (λ k. drop k before) (omega arith))

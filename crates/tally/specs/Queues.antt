-- The kind `queues`: sixteen counts, one for each band of queue lengths.
use Rattle.std.specs.Prelude.{◌≡◌, ℕ, zero, suc, ◌+◌, ◌-◌, ◌*◌, ◌^◌, ◌<◌, ◌≤◌, min, Bool, true, cond, ◌&&◌, List, [], ◌∷◌, ◌++◌, map, length, take, drop, Ok, ◌==◌, nat_le, slice_index, slice_index_or, refl}
use Rattle.std.proofs.Common.{ap, sym, ◌∙◌, ⊎_elim, arith, lit≤, lit<, take-add}
use mathlib.Core.HLevel.{is_prop→PathP, ×_prop, Π_prop}
use Rattle.std.proofs.Math.Bridge.{le_prop}
use Rattle.std.proofs.Math.Nat.{ℕ_set}
use Rattle.std.specs.List.{range_with_len, flat_map, list_all}
use Rattle.std.proofs.lemmas.List.FromFn.{length-map-range_with_len, get_or-map-range_with_len}
use Rattle.std.proofs.lemmas.List.{ext_get_or, get_or_past, take_all, drop-drop}
use Rattle.std.proofs.lemmas.Bool.{eqb-true, leb-true, leb-false, cond_both, and_parts, cases_lt}
use Rattle.big_endian.specs.BigEndian.{Octets, four, four_bytes, four_small, four_drop, four_of_bytes, bytes_of_four, octets_four, octets_nil, octets_append}
use Rattle.tally.specs.Kind.{Kind, Lawful}
use Rattle.tally.specs.declared.queues.banded.Queues.{Queues}

-- the lower edges of the bands
abbrev pub edges : List ℕ
edges = 0 ∷ 1 ∷ 2 ∷ 3 ∷ 4 ∷ 5 ∷ 6 ∷ 8 ∷ 10 ∷ 13 ∷ 16 ∷ 20 ∷ 25 ∷ 32 ∷ 40 ∷ 50 ∷ []

-- a count stops at the largest that fits
abbrev pub stop : ℕ → ℕ
stop n = min n (2 ^ 32 - 1)

-- the sixteen counts that a number for each band gives
unfoldable pub counts_by : (ℕ → ℕ) → List ℕ
counts_by f = map (λ band. stop (f band)) (range_with_len 0 16)

pub counts_at : (f : ℕ → ℕ) (band : ℕ) → band < 16 → slice_index (counts_by f) band ≡ stop (f band)
unfolding counts_by
counts_at f band h = get_or-map-range_with_len (λ k. stop (f k)) 0 16 band band 0 h (omega arith)

pub length_counts : (f : ℕ → ℕ) → length (counts_by f) ≡ 16
unfolding counts_by
length_counts f = length-map-range_with_len (λ k. stop (f k)) 0 16

pub small_counts : (f : ℕ → ℕ) (i : ℕ) → slice_index (counts_by f) i < 2 ^ 32
small_counts f i =
    ⊎_elim (λ (h : i < 16). omega (arith, counts_at f i h)) (λ (h : 16 ≤ i). omega (arith, get_or_past (counts_by f) i 0 (omega (arith, length_counts f)))) (cases_lt i 16)

-- the tally with a number in each band
abbrev pub by_band : (ℕ → ℕ) → Queues
by_band f = record { counts = counts_by f; fits = (length_counts f, small_counts f) }

-- the count in a band
abbrev pub count_in : Queues → ℕ → ℕ
count_in queues band = slice_index queues.counts band

-- the number that bytes have for a band
abbrev pub written_in : List ℕ → ℕ → ℕ
written_in bytes band = four bytes (4 * band)

-- no count is above 0
abbrev pub blank : List ℕ → Bool
blank = list_all (λ n. n == 0)

abbrev pub queues : Kind Queues
queues = record {
  code = 2;
  empty = by_band (λ _. 0);
  join = λ x y. by_band (λ band. count_in x band + count_in y band);
  is_empty = λ x. blank x.counts;
  width = 64;
  bytes = λ x. flat_map four_bytes x.counts;
  read = λ bytes. Ok (by_band (written_in bytes));
}

-- two tallies are equal when their counts are
pub same_counts : (x y : Queues) → x.counts ≡ y.counts → x ≡ y
same_counts x y e = λ i. record {
  counts = e i;
  fits = is_prop→PathP (λ j. (length (e j) ≡ 16) × ((k : ℕ) → slice_index (e j) k < 2 ^ 32)) (λ j. ×_prop (ℕ_set _ _) (Π_prop (λ k. le_prop))) x.fits y.fits i;
}

pub same_by_band : (x : Queues) (f : ℕ → ℕ) → ((band : ℕ) → band < 16 → count_in x band ≡ stop (f band)) → x ≡ by_band f
same_by_band x f h =
    same_counts x (by_band f)
    (ext_get_or 0 x.counts (counts_by f) (x.fits.0 ∙ sym (length_counts f)) (λ k l. let b : k < 16 = omega (arith, x.fits.0) in h k b ∙ sym (counts_at f k b)))

-- the test for empty
blank_true : (ns : List ℕ) → blank ns ≡ true → (i : ℕ) → slice_index ns i ≡ 0
blank_true [] e i = refl
blank_true (n ∷ ns) e zero = eqb-true n 0 (and_parts (n == 0) (blank ns) e).0
blank_true (n ∷ ns) e (suc i) = blank_true ns (and_parts (n == 0) (blank ns) e).1 i

blank_empty : blank (counts_by (λ _. 0)) ≡ true
unfolding counts_by
blank_empty = refl

-- counts as bytes
four_at : (ns : List ℕ) (k : ℕ) → ((i : ℕ) → slice_index ns i < 2 ^ 32) → k < length ns → four (flat_map four_bytes ns) (4 * k) ≡ slice_index ns k
four_at [] k s h = absurd (omega arith)
four_at (n ∷ ns) zero s h = four_of_bytes n (flat_map four_bytes ns) (s 0)
four_at (n ∷ ns) (suc k) s h =
    let e : 4 * suc k ≡ 4 + 4 * k = omega arith in
    ap (four (flat_map four_bytes (n ∷ ns))) e ∙ sym (four_drop (flat_map four_bytes (n ∷ ns)) 4 (4 * k)) ∙ four_at ns k (λ i. s (suc i)) (omega arith)

pub length_fours : (ns : List ℕ) → length (flat_map four_bytes ns) ≡ 4 * length ns
length_fours [] = refl
length_fours (n ∷ ns) = omega (arith, length_fours ns)

octets_fours : (ns : List ℕ) → Octets (flat_map four_bytes ns)
octets_fours [] = octets_nil
octets_fours (n ∷ ns) = octets_append (four_bytes n) (flat_map four_bytes ns) (octets_four n) (octets_fours ns)

-- the counts that bytes write, written again
written_again : (f : ℕ → ℕ) (b : List ℕ) → Octets b → ((k : ℕ) → f k ≡ four b (4 * k)) → (n a : ℕ) → 4 * (a + n) ≤ length b → flat_map four_bytes (map f (range_with_len a n)) ≡ take (4 * n) (drop (4 * a) b)
written_again f b o e zero a l = refl
written_again f b o e (suc n) a l =
    let h : 4 * suc n ≡ 4 + 4 * n = omega arith in
    let g : 4 * (a + 1) ≡ 4 * a + 4 = omega arith in
    let first = ap four_bytes (e a) ∙ bytes_of_four b (4 * a) (omega arith) o in
    let rest = written_again f b o e n (a + 1) (omega arith) in
    ap (λ z. z ++ flat_map four_bytes (map f (range_with_len (a + 1) n))) first ∙ ap (λ z. take 4 (drop (4 * a) b) ++ z) (rest ∙ ap (take (4 * n)) (ap (λ k. drop k b) g ∙ sym (drop-drop 4 (4 * a) b)))
    ∙ sym (take-add 4 (4 * n) (drop (4 * a) b))
    ∙ ap (λ k. take k (drop (4 * a) b)) (sym h)

read_written : (b : List ℕ) → length b ≡ 64 → Octets b → flat_map four_bytes (counts_by (written_in b)) ≡ b
unfolding counts_by
read_written b l o = written_again (λ k. stop (written_in b k)) b o (λ k. omega (arith, four_small b (4 * k) o)) 16 0 (omega arith) ∙ take_all 64 b (omega arith)

back : (x : Queues) (band : ℕ) → band < 16 → count_in x band ≡ stop (written_in (flat_map four_bytes x.counts) band)
back x band h = omega (arith, four_at x.counts band x.fits.1 (omega (arith, x.fits.0)), x.fits.1 band)

both_blank : (x y : Queues) → queues.join x y ≡ queues.empty → (band : ℕ) → band < 16 → (count_in x band ≡ 0) × (count_in y band ≡ 0)
both_blank x y e band h =
    let s = counts_at (λ k. count_in x k + count_in y k) band h in
    let z = counts_at (λ _. 0) band h in
    let t = ap (λ q. count_in q band) e in
    (omega arith, omega arith)

pub queues_lawful : Lawful queues
queues_lawful = record {
  code_byte = lit< tt;
  assoc = λ x y z.
      same_by_band (queues.join (queues.join x y) z) _ (λ k h. omega (arith, counts_at (λ b. count_in (queues.join x y) b + count_in z b) k h, counts_at (λ b. count_in x b + count_in y b) k h, counts_at (λ b. count_in y b + count_in z b) k h));
  comm = λ x y. same_by_band (queues.join x y) _ (λ k h. omega (arith, counts_at (λ b. count_in x b + count_in y b) k h));
  unit = λ x. sym (same_by_band x _ (λ k h. omega (arith, counts_at (λ _. 0) k h, x.fits.1 k)));
  both_empty = λ x y e. (same_by_band x _ (λ k h. omega (arith, (both_blank x y e k h).0)), same_by_band y _ (λ k h. omega (arith, (both_blank x y e k h).1)));
  empty_found = blank_empty;
  only_empty = λ x e. same_by_band x _ (λ k h. omega (arith, blank_true x.counts e k));
  width_min = lit≤ tt;
  width_max = lit≤ tt;
  written = λ x. omega (arith, length_fours x.counts, x.fits.0);
  octets = λ x. octets_fours x.counts;
  reads_back = λ x. ap Ok (sym (same_by_band x _ (back x)));
  reads_only = λ bytes l o x e.
      let h : by_band (written_in bytes) ≡ x = cc in
      ap (λ q. flat_map four_bytes q.counts) (sym h) ∙ read_written bytes l o;
  fault_within = λ bytes l f e. let z : ◌≡◌ {A = ℕ} 0 1 = cc in absurd (omega arith);
}

-- k is the last band whose edge is at most n
pub record LastBand (n k : ℕ) : Type 0 where
  pub within : k < 16
  pub reached : slice_index_or edges k 0 ≤ n
  pub last : (j : ℕ) → k < j → j < 16 → n < slice_index edges j

-- how many of the numbers are at most n
unfoldable pub up_to : List ℕ → ℕ → ℕ
up_to [] n = 0
up_to (e ∷ es) n = cond (nat_le e n) 1 0 + up_to es n

-- the band of a queue of n vehicles: as the edges rise, the bands whose edge is at most n come first
unfoldable pub band_of : ℕ → ℕ
band_of n = up_to edges n - 1

-- the tally of 1 in one band
unfoldable pub one_in : ℕ → Queues
one_in band = by_band (λ k. cond (k == band) 1 0)

-- the tally of one observed queue of n vehicles
abbrev pub observed_queue : ℕ → Queues
observed_queue n = one_in (band_of n)

rising : List ℕ → Bool
rising [] = true
rising (e ∷ []) = true
rising (e ∷ f ∷ es) = nat_le e f && rising (f ∷ es)

rises : (es : List ℕ) → rising es ≡ true → (j k : ℕ) → j ≤ k → k < length es → slice_index es j ≤ slice_index es k
unfolding rising
rises [] r j k h l = absurd (omega arith)
rises (e ∷ []) r zero zero h l = omega arith
rises (e ∷ []) r j (suc k) h l = absurd (omega arith)
rises (e ∷ []) r (suc j) zero h l = absurd (omega arith)
rises (e ∷ f ∷ es) r zero zero h l = omega arith
rises (e ∷ f ∷ es) r (suc j) zero h l = absurd (omega arith)
rises (e ∷ f ∷ es) r zero (suc k) h l =
    let p = and_parts (nat_le e f) (rising (f ∷ es)) r in
    let a : e ≤ f = leb-true e f p.0 in
    let b : f ≤ slice_index_or (f ∷ es) k 0 = rises (f ∷ es) p.1 0 k (omega arith) (omega arith) in
    omega arith
rises (e ∷ f ∷ es) r (suc j) (suc k) h l = rises (f ∷ es) (and_parts (nat_le e f) (rising (f ∷ es)) r).1 j k (omega arith) (omega arith)

pub edges_rise : (j k : ℕ) → j ≤ k → k < 16 → slice_index edges j ≤ slice_index edges k
unfolding rising
edges_rise = rises edges refl

abbrev Rises : List ℕ → Type 0
Rises es = (j k : ℕ) → j ≤ k → k < length es → slice_index es j ≤ slice_index es k

-- the first h numbers are at most n, and no other is
record Splits (es : List ℕ) (n h : ℕ) : Type 0 where
  few : h ≤ length es
  below : (j : ℕ) → j < h → slice_index es j ≤ n
  above : (j : ℕ) → h ≤ j → j < length es → n < slice_index es j

below_cons : (e n h : ℕ) (es : List ℕ) → e ≤ n → ((j : ℕ) → j < h → slice_index es j ≤ n) → (j : ℕ) → j < 1 + h → slice_index (e ∷ es) j ≤ n
below_cons e n h es l f zero t = l
below_cons e n h es l f (suc j) t = f j (omega arith)

above_cons : (e n h : ℕ) (es : List ℕ) → ((j : ℕ) → h ≤ j → j < length es → n < slice_index es j) → (j : ℕ) → 1 + h ≤ j → j < length (e ∷ es) → n < slice_index (e ∷ es) j
above_cons e n h es f zero t l = absurd (omega arith)
above_cons e n h es f (suc j) t l = f j (omega arith) (omega arith)

splits : (es : List ℕ) → Rises es → (n : ℕ) → Splits es n (up_to es n)
unfolding up_to
splits [] r n = record { few = omega arith; below = λ j h. absurd (omega arith); above = λ j h l. absurd (omega arith) }
splits (e ∷ es) r n =
    let s = splits es (λ j k h l. r (suc j) (suc k) (omega arith) (omega arith)) n in
    let h = up_to es n in
    cond_both (nat_le e n) 1 0 (λ k. Splits (e ∷ es) n (k + h))
    (λ t. record { few = omega (arith, s.few); below = below_cons e n h es (leb-true e n t) s.below; above = above_cons e n h es s.above })
    (λ t.
    let less : n < e = leb-false e n t in
    let over : (j : ℕ) → j < length (e ∷ es) → n < slice_index_or (e ∷ es) j 0 = λ j l. omega (arith, r 0 j (omega arith) l) in
    let none : h ≡ 0 = ⊎_elim (λ (u : 0 < h). absurd (omega (arith, s.few, s.below 0 u, over 1 (omega (arith, s.few))))) (λ (u : h ≤ 0). omega arith) (cases_lt 0 h) in
    record { few = omega arith; below = λ j u. absurd (omega arith); above = λ j u l. over j l })

-- the band of a queue is the last whose edge is at most its length
pub band_is_last : (n : ℕ) → LastBand n (band_of n)
unfolding band_of
band_is_last n =
    let s = splits edges edges_rise n in
    let some : 0 < up_to edges n = ⊎_elim (λ (u : 0 < up_to edges n). u) (λ (u : up_to edges n ≤ 0). absurd (omega (arith, s.above 0 u (omega arith)))) (cases_lt 0 (up_to edges n)) in
    record {
      within = omega (arith, s.few);
      reached = s.below (up_to edges n - 1) (omega arith);
      last = λ j h l. s.above j (omega arith) l;
    }

-- only one band is the last
pub one_last_band : (n j k : ℕ) → LastBand n j → LastBand n k → j ≡ k
one_last_band n j k p q =
    ⊎_elim (λ (h : j < k). absurd (omega (arith, p.last k h q.within, q.reached)))
    (λ (h : k ≤ j). ⊎_elim (λ (l : k < j). absurd (omega (arith, q.last j l p.within, p.reached))) (λ (l : j ≤ k). omega arith) (cases_lt k j))
    (cases_lt j k)

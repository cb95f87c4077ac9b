-- The walk over a list of items in bytes.
use Rattle.std.proofs.Common.{◌≡◌, ℕ, zero, suc, ◌+◌, ◌-◌, ◌*◌, ◌/◌, ◌<◌, ◌≤◌, ◌||◌, eqb, List, [], ◌∷◌, ◌++◌, length, take, drop, Some, None, Option, sym, refl, ap, ◌∙◌, subst, ap₂, mul-le-mul_right, add-mul, zero-mul, div-mul-le_self, mul-div_cancel, arith, length-append, length-drop}
use Rattle.std.proofs.Math.Nat.{div-eq_of_lt, div-eq-sub-div}
use Rattle.std.proofs.lemmas.List.{take_at, drop_at, take-append-drop, length-take-le, drop-drop, take-take, drop-take}
use Rattle.std.proofs.lemmas.Iterator.{YieldsList}
use Rattle.std.proofs.lemmas.Iterator.Splits.{YieldsList-from_shown_while}
use Rattle.std.specs.Slice.Iter.{chunks_exact_rest, chunks_exact_size, chunks_exact_steps}
use Rattle.protocol.specs.declared.records.Entry.{Entry}
use Rattle.protocol.specs.declared.refusal.FrameFault.{FrameFault}
use Rattle.std.proofs.lemmas.Option.{slice_get_past}
use Rattle.std.specs.List.{list_any, slice_get}
use Rattle.frame_items.specs.Format.{Format, or_else, row_fault, shown_row, row_of, length_shown}
use Rattle.frame_items.specs.Items.{slots, slot_shown, has_entry}

-- which of four questions answers
module _ (p q r s : Option FrameFault) where
  abbrev pub asked : Option FrameFault
  asked = or_else p (or_else q (or_else r s))

  module _ (answer : Option FrameFault) where
    pub by_first : (x : FrameFault) → answer ≡ Some x → Some x ≡ p → answer ≡ asked
    by_first x a e = a ∙ ap (λ o. or_else o (or_else q (or_else r s))) e

    pub by_second : (x : FrameFault) → answer ≡ Some x → None ≡ p → Some x ≡ q → answer ≡ asked
    by_second x a e f = a ∙ ap₂ (λ o u. or_else o (or_else u (or_else r s))) e f

    pub by_third : (x : FrameFault) → answer ≡ Some x → None ≡ p → None ≡ q → Some x ≡ r → answer ≡ asked
    by_third x a e f g = a ∙ ap (λ o. or_else o s) g ∙ ap₂ (λ o u. or_else o (or_else u (or_else r s))) e f

    pub by_last : None ≡ p → None ≡ q → None ≡ r → answer ≡ s → answer ≡ asked
    by_last e f g h = h ∙ ap (λ o. or_else o s) g ∙ ap₂ (λ o u. or_else o (or_else u (or_else r s))) e f

-- a row whose first item is split off
module _ {I : Type 0} (format : Format I) (b x rest : List ℕ) (wide : 0 < format.width) (split : b ≡ x ++ rest) (long : length x ≡ format.width) where
  count_more : length b / format.width ≡ suc (length rest / format.width)
  count_more =
      let whole : length b ≡ format.width + length rest = ap length split ∙ length-append x rest ∙ ap (λ k. k + length rest) long in
      let k : length b - format.width ≡ length rest = omega arith in
      div-eq-sub-div wide (omega arith) ∙ omega (arith, ap (λ m. m / format.width) k)

  pub shown_more : row_of format b ≡ format.shows x ∷ row_of format rest
  unfolding shown_row
  shown_more =
      ap₂ (λ n z. shown_row format n z) count_more split
      ∙ ap₂ (λ y z. format.shows y ∷ shown_row format (length rest / format.width) z) (take_at x rest format.width long) (drop_at x rest format.width long)

  pub fault_more : (before at : ℕ) → row_fault format (length b / format.width) before at b ≡ or_else (format.fault before at x) (row_fault format (length rest / format.width) (format.rank (format.shows x)) (at + format.width) rest)
  unfolding row_fault
  fault_more before at =
      ap₂ (λ n z. row_fault format n before at z) count_more split
      ∙ ap₂ (λ y z. or_else (format.fault before at y) (row_fault format (length rest / format.width) (format.rank (format.shows y)) (at + format.width) z)) (take_at x rest format.width long) (drop_at x rest format.width long)

-- the same, where the bytes were cut at the width
pub shown_cut : {I : Type 0} (format : Format I) (b x rest : List ℕ) (w : ℕ) → w ≡ format.width → 0 < format.width → w ≤ length b → x ≡ take w b → rest ≡ drop w b → row_of format b ≡ format.shows x ∷ row_of format rest
shown_cut format b x rest w same wide room e f =
    shown_more format b x rest wide (sym (ap₂ ◌++◌ e f ∙ take-append-drop w b)) (ap length e ∙ length-take-le w b room ∙ same)

-- bytes too short for an item
pub shown_end : {I : Type 0} (format : Format I) (b : List ℕ) → length b < format.width → row_of format b ≡ []
unfolding shown_row
shown_end format b h = ap (λ n. shown_row format n b) (div-eq_of_lt h)

-- so many items of a row are passed, and the rest is still to be judged; w is the width
pub record Walk {I : Type 0} (format : Format I) (row : List ℕ) (place w : ℕ) (rest : List ℕ) (passed before : ℕ) : Type 0 where
  pub room : passed * w + length rest ≡ length row
  pub fault : row_fault format (length rest / format.width) before (place + passed * w) rest ≡ row_fault format (length row / format.width) 0 place row

module _ {I : Type 0} (format : Format I) (row : List ℕ) (place w : ℕ) (rest : List ℕ) (passed before : ℕ) (was : Walk format row place w rest passed before) where
  -- the next item, as an iterator of chunks and their indices gives it
  module _ (x behind : List ℕ) (index size : ℕ) (here : index ≡ passed) (cut : size ≡ w) (same : w ≡ format.width) (wide : 0 < size) (split : rest ≡ x ++ behind) (long : length x ≡ size) where
    judged : row_fault format (length rest / format.width) before (place + passed * w) rest ≡ or_else (format.fault before (place + index * w) x) (row_fault format (length behind / format.width) (format.rank (format.shows x)) (place + passed * w + format.width) behind)
    judged =
        fault_more format rest x behind (omega arith) split (omega arith) before (place + passed * w)
        ∙ ap (λ n. or_else (format.fault before (place + n * w) x) (row_fault format (length behind / format.width) (format.rank (format.shows x)) (place + passed * w + format.width) behind)) (sym here)

    pub walk_on : (rank next : ℕ) → next ≡ passed + 1 → None ≡ format.fault before (place + index * w) x → rank ≡ format.rank (format.shows x) → Walk format row place w behind next rank
    walk_on rank next after fine ranked =
        let n = length behind / format.width in
        let at : place + next * w ≡ place + passed * w + format.width = rw after (omega (arith, add-mul passed 1 w)) in
        record {
          room = rw after (omega (arith, was.room, ap length split, length-append x behind, add-mul passed 1 w));
          fault = ap₂ (λ r k. row_fault format n r k behind) ranked at ∙ sym (judged ∙ ap (λ o. or_else o (row_fault format n (format.rank (format.shows x)) (place + passed * w + format.width) behind)) (sym fine)) ∙ was.fault;
        }

    pub walk_stops : (answer : Option FrameFault) (fault : FrameFault) → answer ≡ Some fault → Some fault ≡ format.fault before (place + index * w) x → answer ≡ row_fault format (length row / format.width) 0 place row
    walk_stops answer fault e f =
        e ∙ sym (judged ∙ ap (λ o. or_else o (row_fault format (length behind / format.width) (format.rank (format.shows x)) (place + passed * w + format.width) behind)) (sym f)) ∙ was.fault

  pub walk_ended : length rest < format.width → None ≡ row_fault format (length row / format.width) 0 place row
  unfolding row_fault
  walk_ended h = sym (ap (λ n. row_fault format n before (place + passed * w) rest) (div-eq_of_lt h)) ∙ was.fault

-- the chunks of a row show its items
pub chunks_show : {I : Type 0} (format : Format I) → 0 < format.width → {s : _} → chunks_exact_size s ≡ format.width → YieldsList (chunks_exact_steps {A = ℕ}) (λ x. format.shows x.now) s (row_of format (chunks_exact_rest s))
chunks_show format wide {s} e =
    YieldsList-from_shown_while (chunks_exact_steps {A = ℕ}) (λ x. format.shows x.now) (λ t. row_of format (chunks_exact_rest t)) (λ t. chunks_exact_size t ≡ format.width)
    (λ t u p h. ap length (shown_end format (chunks_exact_rest t) (omega (arith, p, h.1.0))))
    (λ t x u p h. (h.0 ∙ p, shown_more format (chunks_exact_rest t) x.now (chunks_exact_rest u) wide h.1.0 (h.1.1 ∙ p)))
    s e

-- the item at an index
pub nth_shown : {I : Type 0} (format : Format I) (n i : ℕ) (b : List ℕ) → i < n → slice_get (shown_row format n b) i ≡ Some (format.shows (take format.width (drop (i * format.width) b)))
unfolding shown_row
nth_shown format zero i b h = absurd (omega arith)
nth_shown format (suc n) zero b h = ap (λ k. Some (format.shows (take format.width (drop k b)))) (sym (zero-mul format.width))
nth_shown format (suc n) (suc i) b h =
    let w = format.width in
    nth_shown format n i (drop w b) (omega arith) ∙ ap (λ z. Some (format.shows (take w z))) (drop-drop (i * w) w b ∙ ap (λ k. drop k b) (omega (arith, add-mul 1 i w)))

pub nth_none : {I : Type 0} (format : Format I) (n i : ℕ) (b : List ℕ) → n ≤ i → None ≡ slice_get (shown_row format n b) i
nth_none format n i b h = sym (slice_get_past (shown_row format n b) i (omega (arith, length_shown format n b)))

-- an item before the last lies within the list
pub index_within : (n i w : ℕ) → i < n → i * w + w ≤ n * w
index_within n i w h = omega (arith, mul-le-mul_right {m = i + 1} {n = n} w (omega arith), add-mul i 1 w)

-- the same in the code's terms: w is the width, and as many items as fit are in the bytes
module _ {I : Type 0} (format : Format I) (b : List ℕ) (i w : ℕ) (e : w ≡ format.width) (h : i < length b / w) where
  pub item_fits : i * w + w ≤ length b
  item_fits = omega (arith, index_within (length b / w) i w h, div-mul-le_self (length b) w)

  pub item_shown : (x : I) → x ≡ format.shows (take (i * w + w - i * w) (drop (i * w) b)) → Some x ≡ slice_get (row_of format b) i
  item_shown x f =
      let k : i * w + w - i * w ≡ format.width = omega arith in
      let n : length b / w ≡ length b / format.width = ap (λ z. length b / z) e in
      ap Some (f ∙ ap format.shows (ap₂ (λ m z. take m (drop (i * z) b)) k e)) ∙ sym (nth_shown format (length b / format.width) i b (subst (λ z. i < z) n h))

-- a row read from its own part of the bytes
row_within : {I : Type 0} (format : Format I) (n : ℕ) (b : List ℕ) → shown_row format n (take (n * format.width) b) ≡ shown_row format n b
unfolding shown_row
row_within format zero b = refl
row_within format (suc n) b =
    let w = format.width in
    let m : suc n * w ≡ w + n * w = omega (arith, add-mul 1 n w) in
    let long : take (suc n * w) b ≡ take (w + n * w) b = ap (λ k. take k b) m in
    ap₂ (λ x y. format.shows x ∷ shown_row format n y) (ap (take w) long ∙ take-take w (w + n * w) b (omega arith)) (ap (drop w) long ∙ drop-take w (n * w) b) ∙ ap (λ z. format.shows (take w b) ∷ z) (row_within format n (drop w b))

-- so is its first fault
fault_within : {I : Type 0} (format : Format I) (n before at : ℕ) (b : List ℕ) → row_fault format n before at (take (n * format.width) b) ≡ row_fault format n before at b
unfolding row_fault
fault_within format zero before at b = refl
fault_within format (suc n) before at b =
    let w = format.width in
    let m : suc n * w ≡ w + n * w = omega (arith, add-mul 1 n w) in
    let long : take (suc n * w) b ≡ take (w + n * w) b = ap (λ k. take k b) m in
    ap₂ (λ x y. or_else (format.fault before at x) (row_fault format n (format.rank (format.shows x)) (at + w) y)) (ap (take w) long ∙ take-take w (w + n * w) b (omega arith)) (ap (drop w) long ∙ drop-take w (n * w) b)
    ∙ ap (or_else (format.fault before at (take w b))) (fault_within format n (format.rank (format.shows (take w b))) (at + w) (drop w b))

-- a part that begins at a place and is so many items long
module _ {I : Type 0} (format : Format I) (b part : List ℕ) (at n : ℕ) (wide : 0 < format.width) (cut : part ≡ take (n * format.width) (drop at b)) (room : at + n * format.width ≤ length b) where
  pub part_long : length part ≡ n * format.width
  part_long = ap length cut ∙ length-take-le (n * format.width) (drop at b) (omega (arith, length-drop at b))

  items_in_part : length part / format.width ≡ n
  items_in_part = ap (λ m. m / format.width) part_long ∙ mul-div_cancel n wide

  pub part_shows : row_of format part ≡ shown_row format n (drop at b)
  part_shows = ap (λ m. shown_row format m part) items_in_part ∙ ap (shown_row format n) cut ∙ row_within format n (drop at b)

  pub part_fails : (place : ℕ) → row_fault format (length part / format.width) 0 place part ≡ row_fault format n 0 place (drop at b)
  part_fails place = ap (λ m. row_fault format m 0 place part) items_in_part ∙ ap (row_fault format n 0 place) cut ∙ fault_within format n 0 place (drop at b)

-- whose frame it is does not change what slots are shown
pub slots_alike : (m k n : ℕ) (b : List ℕ) → shown_row (slots m) n b ≡ shown_row (slots k) n b
unfolding shown_row
slots_alike m k zero b = refl
slots_alike m k (suc n) b = ap (λ z. slot_shown (take 9 b) ∷ z) (slots_alike m k n (drop 9 b))

-- the search for the entry of a number
pub any_has : {V : Type 0} (number : ℕ) (es : List (Entry V)) → list_any (λ e. eqb e.number number) es ≡ has_entry number es
any_has number [] = refl
any_has number (e ∷ es) = ap (λ t. eqb e.number number || t) (any_has number es)

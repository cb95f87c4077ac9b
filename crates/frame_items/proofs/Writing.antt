-- Items written field after field.
use Rattle.std.proofs.Common.{◌≡◌, ℕ, ◌+◌, ◌-◌, ◌*◌, ◌<◌, ◌≤◌, List, [], ◌∷◌, ◌++◌, length, take, drop, set, sym, refl, ap, ◌∙◌, ap₂, append_assoc, append-nil, mul-le-mul_right, add-mul, zero-mul, arith, length-append, length-drop}
use borrow.Rule.Slice.PartMut.{put_mid}
use Rattle.std.proofs.lemmas.List.{take_at, drop_at, drop-drop, drop_all}
use Rattle.big_endian.proofs.Parts.{put_next}
use Rattle.frame_items.specs.Format.{Format, row_bytes}

first_set : (b : List ℕ) (x : ℕ) → 0 < length b → set b 0 x ≡ (x ∷ []) ++ drop 1 b
first_set [] x h = absurd (omega arith)
first_set (y ∷ b) x h = refl

two_set : (b : List ℕ) (x y : ℕ) → 1 < length b → set (set b 0 x) 1 y ≡ (x ∷ y ∷ []) ++ drop 2 b
two_set [] x y h = absurd (omega arith)
two_set (a ∷ []) x y h = absurd (omega arith)
two_set (a ∷ c ∷ b) x y h = refl

-- two parts of four bytes after a front of n
clocks : (p b v w : List ℕ) (n : ℕ) → length p ≡ n → n + 8 ≤ length b → length v ≡ 4 → length w ≡ 4 → put_mid (n + 4) 4 (put_mid n 4 (p ++ drop n b) v) w ≡ ((p ++ v) ++ w) ++ drop (n + 8) b
clocks p b v w n l h lv lw =
    ap (λ z. put_mid (n + 4) 4 z w) (put_next p (drop n b) v n 4 l lv (omega (arith, length-drop n b)))
    ∙ put_next (p ++ v) (drop 4 (drop n b)) w (n + 4) 4 (omega (arith, length-append p v)) lw (omega (arith, length-drop 4 (drop n b), length-drop n b))
    ∙ ap (λ z. ((p ++ v) ++ w) ++ z) (drop-drop 4 4 (drop n b) ∙ drop-drop 8 n b)

pub slot_written : (b v w : List ℕ) (x : ℕ) → length b ≡ 9 → length v ≡ 4 → length w ≡ 4 → put_mid 5 4 (put_mid 1 4 (set b 0 x) v) w ≡ x ∷ (v ++ w)
slot_written b v w x l lv lw =
    ap (λ z. put_mid 5 4 (put_mid 1 4 z v) w) (first_set b x (omega arith)) ∙ clocks (x ∷ []) b v w 1 refl (omega arith) lv lw ∙ ap (λ z. (((x ∷ []) ++ v) ++ w) ++ z) (drop_all 9 b (omega arith)) ∙ append-nil _

pub token_written : (b v w t : List ℕ) (x y : ℕ) → 10 ≤ length b → length v ≡ 4 → length w ≡ 4 → take 10 (put_mid 6 4 (put_mid 2 4 (set (set b 0 x) 1 y) v) w) ++ t ≡ x ∷ y ∷ (v ++ (w ++ t))
token_written b v w t x y l lv lw =
    let p = ((x ∷ y ∷ []) ++ v) ++ w in
    let n : length p ≡ 10 = omega (arith, length-append ((x ∷ y ∷ []) ++ v) w, length-append (x ∷ y ∷ []) v) in
    ap (λ z. take 10 (put_mid 6 4 (put_mid 2 4 z v) w) ++ t) (two_set b x y (omega arith)) ∙ ap (λ z. take 10 z ++ t) (clocks (x ∷ y ∷ []) b v w 2 refl (omega arith) lv lw) ∙ ap (λ z. z ++ t) (take_at p (drop 10 b) 10 n)
    ∙ ap (λ z. x ∷ y ∷ z) (append_assoc v w t)

pub entry_written : (b v t : List ℕ) (x : ℕ) → 5 ≤ length b → length v ≡ 4 → take 5 (put_mid 1 4 (set b 0 x) v) ++ t ≡ x ∷ (v ++ t)
entry_written b v t x l lv =
    ap (λ z. take 5 (put_mid 1 4 z v) ++ t) (first_set b x (omega arith)) ∙ ap (λ z. take 5 z ++ t) (put_next (x ∷ []) (drop 1 b) v 1 4 refl lv (omega (arith, length-drop 1 b)))
    ∙ ap (λ z. z ++ t) (take_at ((x ∷ []) ++ v) (drop 4 (drop 1 b)) 5 (omega (arith, length-append (x ∷ []) v)))

length_rows : {I : Type 0} (format : Format I) → ((x : I) → length (format.bytes x) ≡ format.width) → (xs : List I) → length (row_bytes format xs) ≡ length xs * format.width
length_rows format long [] = sym (zero-mul format.width)
length_rows format long (x ∷ xs) = length-append (format.bytes x) (row_bytes format xs) ∙ ap₂ ◌+◌ (long x) (length_rows format long xs) ∙ omega (arith, add-mul 1 (length xs) format.width)

-- i of the items are written, from a start on
pub record Going {I : Type 0} (format : Format I) (items : List I) (before : List ℕ) (start : ℕ) (out : List ℕ) (at i : ℕ) : Type 0 where
  pub place : at ≡ start + i * format.width
  pub bytes : out ≡ (take start before ++ row_bytes format (take i items)) ++ drop at before

module _ {I : Type 0} (format : Format I) (long : (x : I) → length (format.bytes x) ≡ format.width) (items : List I) (before : List ℕ) (start : ℕ) (room : start + length items * format.width ≤ length before) (out : List ℕ) (at i : ℕ) (was : Going format items before start out at i) (h : i < length items) where
  row_room : start + i * format.width + format.width ≤ length before
  row_room = omega (arith, mul-le-mul_right {m = i + 1} {n = length items} format.width (omega arith), add-mul i 1 format.width)

-- a row behind what is written already
pub row_after : (p s b out : List ℕ) (n m : ℕ) → length p ≡ n → out ≡ p ++ drop n b → n ≤ m → (take n out ++ s) ++ drop m out ≡ (p ++ s) ++ drop m b
row_after p s b out n m l e h =
    let k : n + (m - n) ≡ m = omega arith in
    let behind : drop m out ≡ drop m b = ap (drop m) e ∙ ap (λ z. drop z (p ++ drop n b)) (sym k) ∙ sym (drop-drop (m - n) n (p ++ drop n b)) ∙ ap (drop (m - n)) (drop_at p (drop n b) n l) ∙ drop-drop (m - n) n b ∙ ap (λ z. drop z b) k in
    ap₂ (λ x y. (x ++ s) ++ y) (ap (take n) e ∙ take_at p (drop n b) n l) behind

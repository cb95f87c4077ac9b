-- Numbers in bytes, most significant byte first: at any width, and byte by byte at four and eight.
use Rattle.std.specs.Prelude.{◌≡◌, ℕ, zero, suc, ◌+◌, ◌*◌, ◌/◌, ◌%◌, ◌^◌, ◌<◌, ◌≤◌, List, [], ◌∷◌, ◌++◌, length, take, drop, slice_index, slice_index_or, refl}
use Rattle.std.proofs.Common.{sym, ap, ap₂, subst, ◌∙◌, mod-lt, mod-eq_of_lt, arith, lit<, length-drop}
use Rattle.std.proofs.Math.Nat.{mod-one, pow-succ'}
use Rattle.std.proofs.Math.Arith.{mod-mul, digits_lt, digits_div, digits_mod}
use Rattle.std.proofs.Math.Seq.{take-append_seam}
use Rattle.std.proofs.lemmas.List.{get_or-take, get_or-drop, length-take-le}

-- each number is a byte
abbrev pub Octets : List ℕ → Type 0
Octets bytes = (i : ℕ) → slice_index bytes i < 256

-- a number in so many bytes; what does not fit is cut off
unfoldable pub big : ℕ → ℕ → List ℕ
big zero n = []
big (suc w) n = (n / 256 ^ w % 256) ∷ big w n

-- the number that bytes write
unfoldable pub number : List ℕ → ℕ
number [] = 0
number (b ∷ bs) = b * 256 ^ length bs + number bs

-- the number in the four bytes from a place on, byte by byte
abbrev pub four : List ℕ → ℕ → ℕ
four bytes at = slice_index bytes at * 16777216 + slice_index bytes (at + 1) * 65536 + slice_index bytes (at + 2) * 256 + slice_index bytes (at + 3)

abbrev pub four_bytes : ℕ → List ℕ
four_bytes n = (n / 16777216 % 256) ∷ (n / 65536 % 256) ∷ (n / 256 % 256) ∷ (n % 256) ∷ []

-- the number in the eight bytes from a place on
abbrev pub eight : List ℕ → ℕ → ℕ
eight bytes at =
    slice_index bytes at * 72057594037927936 + slice_index bytes (at + 1) * 281474976710656 + slice_index bytes (at + 2) * 1099511627776 + slice_index bytes (at + 3) * 4294967296 + slice_index bytes (at + 4) * 16777216
    + slice_index bytes (at + 5) * 65536
    + slice_index bytes (at + 6) * 256
    + slice_index bytes (at + 7)

abbrev pub eight_bytes : ℕ → List ℕ
eight_bytes n =
    (n / 72057594037927936 % 256) ∷ (n / 281474976710656 % 256) ∷ (n / 1099511627776 % 256) ∷ (n / 4294967296 % 256) ∷ (n / 16777216 % 256) ∷ (n / 65536 % 256) ∷ (n / 256 % 256) ∷ (n % 256) ∷ []

-- bytes in bytes
octets_tail : (b : ℕ) (bs : List ℕ) → Octets (b ∷ bs) → Octets bs
octets_tail b bs o i = o (suc i)

pub octets_nil : Octets []
octets_nil i = lit< tt

pub octets_cons : (b : ℕ) (bs : List ℕ) → b < 256 → Octets bs → Octets (b ∷ bs)
octets_cons b bs h o zero = h
octets_cons b bs h o (suc i) = o i

pub octets_append : (a b : List ℕ) → Octets a → Octets b → Octets (a ++ b)
octets_append [] b p q = q
octets_append (x ∷ a) b p q = octets_cons x (a ++ b) (p 0) (octets_append a b (octets_tail x a p) q)

pub octets_drop : (n : ℕ) (b : List ℕ) → Octets b → Octets (drop n b)
octets_drop n b o i = omega (arith, get_or-drop n b i 0, o (n + i))

pub octets_take : (n : ℕ) (b : List ℕ) → Octets b → Octets (take n b)
octets_take zero b o = octets_nil
octets_take (suc n) [] o = octets_nil
octets_take (suc n) (x ∷ b) o = octets_cons x (take n b) (o 0) (octets_take n b (octets_tail x b o))

-- any width
pow : (w : ℕ) → 0 < 256 ^ w
pow zero = lit< tt
pow (suc w) = omega (arith, pow w, pow-succ' 256 w)

pub length_big : (w n : ℕ) → length (big w n) ≡ w
unfolding big
length_big zero n = refl
length_big (suc w) n = ap suc (length_big w n)

pub octets_big : (w n : ℕ) → Octets (big w n)
unfolding big
octets_big zero n = octets_nil
octets_big (suc w) n = octets_cons (n / 256 ^ w % 256) (big w n) (mod-lt (n / 256 ^ w) (lit< tt)) (octets_big w n)

number_big : (w n : ℕ) → number (big w n) ≡ n % 256 ^ w
unfolding big number
number_big zero n = sym (mod-one n)
number_big (suc w) n =
    ap₂ (λ l m. (n / 256 ^ w % 256) * 256 ^ l + m) (length_big w n) (number_big w n) ∙ sym (mod-mul n (lit< tt) (pow w)) ∙ ap (λ m. n % m) (sym (pow-succ' 256 w))

pub number_small : (bs : List ℕ) → Octets bs → number bs < 256 ^ length bs
unfolding number
number_small [] o = lit< tt
number_small (b ∷ bs) o = let h = digits_lt (o 0) (number_small bs (octets_tail b bs o)) in omega (arith, h, pow-succ' 256 (length bs))

pub number_same : (a b : List ℕ) → Octets a → Octets b → length a ≡ length b → number a ≡ number b → a ≡ b
unfolding number
number_same [] [] p q l e = refl
number_same [] (y ∷ b) p q l e = absurd (omega arith)
number_same (x ∷ a) [] p q l e = absurd (omega arith)
number_same (x ∷ a) (y ∷ b) p q l e =
    let n : length a ≡ length b = omega arith in
    let s : number b < 256 ^ length a = subst (λ k. number b < 256 ^ k) (sym n) (number_small b (octets_tail y b q)) in
    let t : x * 256 ^ length a + number a ≡ y * 256 ^ length a + number b = e ∙ ap (λ k. y * 256 ^ k + number b) (sym n) in
    let r = number_small a (octets_tail x a p) in
    let heads : x ≡ y = sym (digits_div x r) ∙ ap (λ k. k / 256 ^ length a) t ∙ digits_div y s in
    let rests : number a ≡ number b = sym (digits_mod x r) ∙ ap (λ k. k % 256 ^ length a) t ∙ digits_mod y s in
    ap₂ ◌∷◌ heads (number_same a b (octets_tail x a p) (octets_tail y b q) n rests)

pub big_number : (bs : List ℕ) → Octets bs → big (length bs) (number bs) ≡ bs
big_number bs o =
    number_same _ _ (octets_big (length bs) (number bs)) o (length_big (length bs) (number bs)) (number_big (length bs) (number bs) ∙ mod-eq_of_lt (number_small bs o))

pub number_of_big : (w n : ℕ) → n < 256 ^ w → number (big w n) ≡ n
number_of_big w n h = number_big w n ∙ mod-eq_of_lt h

-- four and eight bytes
of_four : (b : List ℕ) → length b ≡ 4 → number b ≡ four b 0
unfolding number
of_four [] l = absurd (omega arith)
of_four (a ∷ []) l = absurd (omega arith)
of_four (a ∷ b ∷ []) l = absurd (omega arith)
of_four (a ∷ b ∷ c ∷ []) l = absurd (omega arith)
of_four (a ∷ b ∷ c ∷ d ∷ []) l = omega arith
of_four (a ∷ b ∷ c ∷ d ∷ e ∷ x) l = absurd (omega arith)

of_eight : (b : List ℕ) → length b ≡ 8 → number b ≡ eight b 0
unfolding number
of_eight [] l = absurd (omega arith)
of_eight (a ∷ []) l = absurd (omega arith)
of_eight (a ∷ b ∷ []) l = absurd (omega arith)
of_eight (a ∷ b ∷ c ∷ []) l = absurd (omega arith)
of_eight (a ∷ b ∷ c ∷ d ∷ []) l = absurd (omega arith)
of_eight (a ∷ b ∷ c ∷ d ∷ e ∷ []) l = absurd (omega arith)
of_eight (a ∷ b ∷ c ∷ d ∷ e ∷ f ∷ []) l = absurd (omega arith)
of_eight (a ∷ b ∷ c ∷ d ∷ e ∷ f ∷ g ∷ []) l = absurd (omega arith)
of_eight (a ∷ b ∷ c ∷ d ∷ e ∷ f ∷ g ∷ h ∷ []) l = omega arith
of_eight (a ∷ b ∷ c ∷ d ∷ e ∷ f ∷ g ∷ h ∷ i ∷ x) l = absurd (omega arith)

big_four : (n : ℕ) → big 4 n ≡ four_bytes n
unfolding big
big_four n = let h : n / 1 % 256 ≡ n % 256 = omega arith in cc

big_eight : (n : ℕ) → big 8 n ≡ eight_bytes n
unfolding big
big_eight n = let h : n / 1 % 256 ≡ n % 256 = omega arith in cc

pub four_drop : (b : List ℕ) (k at : ℕ) → four (drop k b) at ≡ four b (k + at)
four_drop b k at =
    let p : (j : ℕ) → slice_index (drop k b) (at + j) ≡ slice_index_or b (k + at + j) 0 = λ j. get_or-drop k b (at + j) 0 ∙ ap (λ i. slice_index b i) (omega arith) in
    omega (arith, get_or-drop k b at 0, p 1, p 2, p 3)

pub four_small : (b : List ℕ) (at : ℕ) → Octets b → four b at < 2 ^ 32
four_small b at o = omega (arith, o at, o (at + 1), o (at + 2), o (at + 3))

pub octets_four : (n : ℕ) → Octets (four_bytes n)
octets_four n = subst Octets (big_four n) (octets_big 4 n)

-- what is read at a place is read at the front of what begins there
eight_drop : (b : List ℕ) (k at : ℕ) → eight (drop k b) at ≡ eight b (k + at)
eight_drop b k at =
    let p : (j : ℕ) → slice_index (drop k b) (at + j) ≡ slice_index_or b (k + at + j) 0 = λ j. get_or-drop k b (at + j) 0 ∙ ap (λ i. slice_index b i) (omega arith) in
    omega (arith, get_or-drop k b at 0, p 1, p 2, p 3, p 4, p 5, p 6, p 7)

four_take : (b : List ℕ) → four (take 4 b) 0 ≡ four b 0
four_take b = let p : (j : ℕ) → j < 4 → slice_index (take 4 b) j ≡ slice_index_or b j 0 = λ j. get_or-take 4 b j 0 in omega (arith, p 0 (lit< tt), p 1 (lit< tt), p 2 (lit< tt), p 3 (lit< tt))

eight_take : (b : List ℕ) → eight (take 8 b) 0 ≡ eight b 0
eight_take b =
    let p : (j : ℕ) → j < 8 → slice_index (take 8 b) j ≡ slice_index_or b j 0 = λ j. get_or-take 8 b j 0 in
    omega (arith, p 0 (lit< tt), p 1 (lit< tt), p 2 (lit< tt), p 3 (lit< tt), p 4 (lit< tt), p 5 (lit< tt), p 6 (lit< tt), p 7 (lit< tt))

-- a way to read w bytes at a place, and a way to write them, that are those of any width
record Reading (w : ℕ) (read : List ℕ → ℕ → ℕ) (bytes : ℕ → List ℕ) : Type 0 where
  of_part : (b : List ℕ) → length b ≡ w → number b ≡ read b 0
  moved : (b : List ℕ) (k at : ℕ) → read (drop k b) at ≡ read b (k + at)
  cut : (b : List ℕ) → read (take w b) 0 ≡ read b 0
  written : (n : ℕ) → big w n ≡ bytes n

fours : Reading 4 four four_bytes
fours = record { of_part = of_four; moved = four_drop; cut = four_take; written = big_four }

eights : Reading 8 eight eight_bytes
eights = record { of_part = of_eight; moved = eight_drop; cut = eight_take; written = big_eight }

module _ {w : ℕ} {read : List ℕ → ℕ → ℕ} {bytes : ℕ → List ℕ} (reading : Reading w read bytes) where
  read_bytes : (n : ℕ) (rest : List ℕ) → n < 256 ^ w → read (bytes n ++ rest) 0 ≡ n
  read_bytes n rest h =
      let l : length (bytes n) ≡ w = ap length (sym (reading.written n)) ∙ length_big w n in
      let front : take w (bytes n ++ rest) ≡ bytes n = ap (λ k. take k (bytes n ++ rest)) (sym l) ∙ take-append_seam (bytes n) rest in
      sym (reading.cut (bytes n ++ rest)) ∙ ap (λ b. read b 0) front ∙ sym (reading.of_part (bytes n) l) ∙ ap number (sym (reading.written n)) ∙ number_of_big w n h

  -- writing what the bytes say gives the bytes back
  bytes_read : (b : List ℕ) (at : ℕ) → at + w ≤ length b → Octets b → bytes (read b at) ≡ take w (drop at b)
  bytes_read b at h o =
      let part = take w (drop at b) in
      let n : length part ≡ w = length-take-le w (drop at b) (omega (arith, length-drop at b)) in
      let k : at + 0 ≡ at = omega arith in
      let v : read b at ≡ number part = ap (read b) (sym k) ∙ sym (reading.moved b at 0) ∙ sym (reading.cut (drop at b)) ∙ sym (reading.of_part part n) in
      ap bytes v ∙ sym (reading.written (number part)) ∙ ap (λ m. big m (number part)) (sym n) ∙ big_number part (octets_take w (drop at b) (octets_drop at b o))

pub four_of_bytes : (n : ℕ) (rest : List ℕ) → n < 2 ^ 32 → four (four_bytes n ++ rest) 0 ≡ n
four_of_bytes n rest h = read_bytes fours n rest h

pub bytes_of_four : (b : List ℕ) (at : ℕ) → at + 4 ≤ length b → Octets b → four_bytes (four b at) ≡ take 4 (drop at b)
bytes_of_four = bytes_read fours

pub eight_small : (b : List ℕ) (at : ℕ) → Octets b → eight b at < 2 ^ 64
eight_small b at o = omega (arith, o at, o (at + 1), o (at + 2), o (at + 3), o (at + 4), o (at + 5), o (at + 6), o (at + 7))

pub octets_eight : (n : ℕ) → Octets (eight_bytes n)
octets_eight n = subst Octets (big_eight n) (octets_big 8 n)

pub eight_of_bytes : (n : ℕ) (rest : List ℕ) → n < 2 ^ 64 → eight (eight_bytes n ++ rest) 0 ≡ n
eight_of_bytes n rest h = read_bytes eights n rest h

pub bytes_of_eight : (b : List ℕ) (at : ℕ) → at + 8 ≤ length b → Octets b → eight_bytes (eight b at) ≡ take 8 (drop at b)
bytes_of_eight = bytes_read eights

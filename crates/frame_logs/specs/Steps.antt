-- What each byte of a line's text does, and that a line so read is what its text writes.
use Rattle.std.specs.Prelude.{◌≡◌, ℕ, zero, suc, ◌+◌, ◌*◌, List, [], ◌∷◌, ◌++◌, take, Some, None, Ok, Err, Option, Result, refl}
use Rattle.std.proofs.Common.{sym, ap, ◌∙◌, append_assoc, append-nil, lit≤}
use Rattle.std.proofs.lemmas.List.{take-take}
use Rattle.frame_logs.specs.declared.standing.Standing.{Standing}
use Rattle.frame_logs.specs.declared.standing.Standing.TheVariants.{Paired, Half, Broken}
use Rattle.frame_logs.specs.declared.standing.NoHexadecimal.{NoHexadecimal}
use Rattle.frame_logs.specs.declared.standing.NoHexadecimal.TheVariants.{OddDigits, NoDigit}
use Rattle.frame_logs.specs.Hexadecimal.{digit_of, unless_digit, stranger, pair_of, more_of, bytes_of, verdict, decoded}

-- so many bytes are kept of a line
abbrev pub kept_max : ℕ
kept_max = 1837

abbrev pub kept_of : Result (List ℕ) NoHexadecimal → Result (List ℕ) NoHexadecimal
kept_of (Ok bs) = Ok (take kept_max bs)
kept_of (Err why) = Err why

-- the bytes kept so far, and how the digits stand
pub record Seen : Type 0 where
  pub bytes : List ℕ
  pub standing : Standing

abbrev pub start : Seen
start = record { bytes = []; standing = Paired }

-- one byte more, of which the first ones are kept
abbrev pub push : List ℕ → ℕ → List ℕ
push bs b = take kept_max (bs ++ b ∷ [])

abbrev pub half_or : Option ℕ → ℕ → Standing
half_or None b = Broken b
half_or (Some h) b = Half h

abbrev pub begun_by : ℕ → Standing
begun_by b = half_or (digit_of b) b

abbrev pub ended_by : List ℕ → ℕ → Option ℕ → ℕ → Seen
ended_by bs h None b = record { bytes = bs; standing = Broken b }
ended_by bs h (Some l) b = record { bytes = push bs (h * 16 + l); standing = Paired }

-- by how the digits stood, and the digit that the byte is
abbrev pub step_at : Standing → List ℕ → Option ℕ → ℕ → Seen
step_at Paired bs d b = record { bytes = bs; standing = half_or d b }
step_at (Half h) bs d b = ended_by bs h d b
step_at (Broken x) bs d b = record { bytes = bs; standing = Broken x }

abbrev pub step : Seen → ℕ → Seen
step s b = step_at s.standing s.bytes (digit_of b) b

-- what is seen after a text
abbrev pub after : Seen → List ℕ → Seen
after s [] = s
after s (b ∷ text) = after (step s b) text

pub after_more : (s : Seen) (text : List ℕ) (b : ℕ) → after s (text ++ b ∷ []) ≡ step (after s text) b
after_more s [] b = refl
after_more s (x ∷ text) b = after_more (step s x) text b

-- the answer that is given then
abbrev pub answer_at : Standing → List ℕ → Result (List ℕ) NoHexadecimal
answer_at Paired bs = Ok bs
answer_at (Half h) bs = Err OddDigits
answer_at (Broken b) bs = Err (NoDigit b)

abbrev pub answer : Seen → Result (List ℕ) NoHexadecimal
answer s = answer_at s.standing s.bytes

-- it is what the text writes
abbrev then_of : List ℕ → Option (List ℕ) → Option (List ℕ)
then_of bs None = None
then_of bs (Some cs) = Some (bs ++ cs)

broken_stays : (bs : List ℕ) (x : ℕ) (text : List ℕ) → after (record { bytes = bs; standing = Broken x }) text ≡ record { bytes = bs; standing = Broken x }
broken_stays bs x [] = refl
broken_stays bs x (b ∷ text) = broken_stays bs x text

take_front : (n : ℕ) (xs ys : List ℕ) → take n (take n xs ++ ys) ≡ take n (xs ++ ys)
take_front zero xs ys = refl
take_front (suc n) [] ys = refl
take_front (suc n) (x ∷ xs) ys = ap (λ z. x ∷ z) (take_front n xs ys)

pushed : (bs : List ℕ) (b : ℕ) (s : Option ℕ) (r : Option (List ℕ)) → kept_of (verdict s (then_of (push bs b) r)) ≡ kept_of (verdict s (then_of bs (more_of (Some b) r)))
pushed bs b (Some x) r = refl
pushed bs b None None = refl
pushed bs b None (Some cs) = ap Ok (take_front kept_max (bs ++ b ∷ []) cs ∙ ap (take kept_max) (append_assoc bs (b ∷ []) cs))

one_answer : (bs : List ℕ) (h : ℕ) (d : Option ℕ) → answer (record { bytes = bs; standing = half_or d h }) ≡ kept_of (verdict (unless_digit d h None) None)
one_answer bs h None = refl
one_answer bs h (Some x) = refl

-- what the rest of a text gives, from any bytes before it on
abbrev Onward : List ℕ → Type 0
Onward text = (bs : List ℕ) → take kept_max bs ≡ bs → answer (after (record { bytes = bs; standing = Paired }) text) ≡ kept_of (verdict (stranger text) (then_of bs (bytes_of text)))

two_answer : (h l : ℕ) (text bs : List ℕ) (dh dl : Option ℕ) → Onward text
    → answer (after (step_at (half_or dh h) bs dl l) text) ≡ kept_of (verdict (unless_digit dh h (unless_digit dl l (stranger text))) (then_of bs (more_of (pair_of dh dl) (bytes_of text))))
two_answer h l text bs None dl onward = ap answer (broken_stays bs h text)
two_answer h l text bs (Some x) None onward = ap answer (broken_stays bs l text)
two_answer h l text bs (Some x) (Some y) onward =
    onward (push bs (x * 16 + y)) (take-take kept_max kept_max (bs ++ (x * 16 + y) ∷ []) (lit≤ tt)) ∙ pushed bs (x * 16 + y) (stranger text) (bytes_of text)

onward : (text : List ℕ) → Onward text
onward [] bs full = sym (ap Ok (ap (take kept_max) (append-nil bs) ∙ full))
onward (h ∷ []) bs full = one_answer bs h (digit_of h)
onward (h ∷ l ∷ text) bs full = two_answer h l text bs (digit_of h) (digit_of l) (onward text)

none_before : (r : Option (List ℕ)) → then_of [] r ≡ r
none_before None = refl
none_before (Some bs) = refl

pub answered : (text : List ℕ) → answer (after start text) ≡ kept_of (decoded text)
answered text = onward text [] refl ∙ ap (λ r. kept_of (verdict (stranger text) r)) (none_before (bytes_of text))

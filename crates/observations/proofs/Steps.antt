-- What one more byte makes of a line, and what a line says at its end. Assumes nothing.
use Rattle.std.proofs.Common.{◌≡◌, ℕ, ◌+◌, ◌-◌, ◌*◌, ◌^◌, ◌<◌, ◌≤◌, ltb, ◌⊎◌, List, [], ◌∷◌, ◌++◌, map, length, Some, None, Option, Ok, Err, Result, sym, refl, ap, ◌∙◌, subst, inl, inr, ⊎_elim, append_assoc, append-nil, arith, length-append}
use Rattle.std.specs.List.{AllByRecursion}
use Rattle.std.specs.Int.Digits.{number_from_digits}
use Rattle.std.proofs.lemmas.List.{map_push}
use Rattle.std.proofs.lemmas.Int.Digits.{number_push}
use Rattle.std.proofs.ByRecursion.{All-append, All-push, All-weaker}
use Rattle.std.proofs.lemmas.Bool.{lt-ltb, le-ltb, cases_lt, cond-true, cond-false}
use Rattle.observations.specs.declared.line.LineFault.{LineFault}
use Rattle.observations.specs.declared.line.LineFault.TheVariants.{NotANumber, TooLarge}
use Rattle.observations.specs.declared.line.Line.{Line}
use Rattle.observations.specs.declared.line.Line.TheVariants.{Blanks, Digits, Closed, Broken}
use Rattle.observations.specs.Line.{BlankByte, DigitByte, worth, Writes, Says}
use Rattle.observations.specs.Reader.{Has, amount_of, longer, after_blank, after_digit, said_of, said}

-- lists cut where a property ends
abbrev Without : (ℕ → Type 0) → List ℕ → Type 0
Without P [] = Unit {0}
Without P (y ∷ ys) = P y → ⊥

pub one_cut : (P : ℕ → Type 0) (xs ys zs ws : List ℕ) → AllByRecursion P xs → AllByRecursion P zs → Without P ys → Without P ws → xs ++ ys ≡ zs ++ ws → (xs ≡ zs) × (ys ≡ ws)
one_cut P [] ys [] ws a b c d e = (refl, e)
one_cut P [] ys (z ∷ zs) ws a b c d e = absurd (subst (Without P) e c b.0)
one_cut P (x ∷ xs) ys [] ws a b c d e = absurd (subst (Without P) (sym e) d a.0)
one_cut P (x ∷ xs) ys (z ∷ zs) ws a b c d e =
    let h : x ≡ z = cc in
    let t : xs ++ ys ≡ zs ++ ws = cc in
    let r = one_cut P xs ys zs ws a.1 b.1 c d t in
    let p = r.0 in
    (cc, r.1)

pub apart : (b : ℕ) → BlankByte b → DigitByte b → ⊥
apart b (inl e) d = omega arith
apart b (inr (inl e)) d = omega arith
apart b (inr (inr e)) d = omega arith

digits_open : (digits after : List ℕ) → 0 < length digits → AllByRecursion DigitByte digits → Without BlankByte (digits ++ after)
digits_open [] after s d = absurd (omega arith)
digits_open (x ∷ xs) after s d = λ b. apart x b d.0

blanks_open : (after more : List ℕ) → AllByRecursion BlankByte after → 0 < length after → Without DigitByte (after ++ more)
blanks_open [] more b s = absurd (omega arith)
blanks_open (x ∷ xs) more b s = apart x b.0

blanks_close : (after : List ℕ) → AllByRecursion BlankByte after → Without DigitByte after
blanks_close [] b = tt
blanks_close (x ∷ xs) b = apart x b.0

-- a line has one run of digits
pub one_run : (a d z : List ℕ) {line : List ℕ} {n : ℕ} (w : Writes line n) → line ≡ a ++ (d ++ z) → AllByRecursion BlankByte a → AllByRecursion DigitByte d → 0 < length d → Without DigitByte z → (d ≡ w.digits) × (z ≡ w.after)
one_run a d z w e blank digits some unlike =
    let first = one_cut BlankByte a (d ++ z) w.before (w.digits ++ w.after) blank w.blank_before (digits_open d z some digits) (digits_open w.digits w.after w.some w.all_digits) (sym e ∙ w.is) in
    one_cut DigitByte d z w.digits w.after digits w.all_digits unlike (blanks_close w.after w.blank_after) first.1

pub one_number : {line : List ℕ} {m n : ℕ} → Writes line m → Writes line n → m ≡ n
one_number v w =
    let same = one_run v.before v.digits v.after w v.is v.blank_before v.all_digits v.some (blanks_close v.after v.blank_after) in
    sym v.value ∙ ap worth same.0 ∙ w.value

-- an element in the middle
all_at : (P : ℕ → Type 0) (xs : List ℕ) (y : ℕ) (ys : List ℕ) → AllByRecursion P (xs ++ y ∷ ys) → P y
all_at P [] y ys a = a.0
all_at P (x ∷ xs) y ys a = all_at P xs y ys a.1

abbrev Known : ℕ → Type 0
Known b = BlankByte b ⊎ DigitByte b

known : {line : List ℕ} {n : ℕ} → Writes line n → AllByRecursion Known line
known w =
    subst (AllByRecursion Known) (sym w.is)
    (All-append Known w.before (w.digits ++ w.after) (All-weaker BlankByte Known (λ _ h. inl h) w.before w.blank_before)
    (All-append Known w.digits w.after (All-weaker DigitByte Known (λ _ h. inr h) w.digits w.all_digits) (All-weaker BlankByte Known (λ _ h. inl h) w.after w.blank_after)))

-- amounts
amount_fits : (n : ℕ) → n < 2 ^ 32 → amount_of n ≡ Some n
amount_fits n h = cond-true (ltb n (2 ^ 32)) (Some n) None (lt-ltb n (2 ^ 32) h)

amount_exceeds : (n : ℕ) → 2 ^ 32 ≤ n → amount_of n ≡ None
amount_exceeds n h = cond-false (ltb n (2 ^ 32)) (Some n) None (le-ltb n (2 ^ 32) h)

longer_amount : (n d : ℕ) → longer (amount_of n) d ≡ amount_of (n * 10 + d)
longer_amount n d =
    ⊎_elim
    (λ (h : n < 2 ^ 32). ap (λ a. longer a d) (amount_fits n h))
    (λ (h : 2 ^ 32 ≤ n). ap (λ a. longer a d) (amount_exceeds n h) ∙ sym (amount_exceeds (n * 10 + d) (omega arith)))
    (cases_lt n (2 ^ 32))

-- one more byte
worth_push : (digits : List ℕ) (b : ℕ) → worth (digits ++ b ∷ []) ≡ worth digits * 10 + (b - 48)
worth_push digits b = ap (λ ds. number_from_digits 10 ds) (map_push (λ x. x - 48) digits b) ∙ number_push 10 (map (λ x. x - 48) digits) (b - 48)

abbrev one_blank_more : {text : List ℕ} {n : ℕ} (b : ℕ) → BlankByte b → Writes text n → Writes (text ++ b ∷ []) n
one_blank_more b blank w = record {
  before = w.before;
  digits = w.digits;
  after = w.after ++ b ∷ [];
  is = ap (λ t. t ++ b ∷ []) w.is ∙ append_assoc w.before (w.digits ++ w.after) (b ∷ []) ∙ ap (λ t. w.before ++ t) (append_assoc w.digits w.after (b ∷ []));
  blank_before = w.blank_before;
  all_digits = w.all_digits;
  some = w.some;
  blank_after = All-push BlankByte w.after b w.blank_after blank;
  value = w.value;
}

pub after_one_blank : (text : List ℕ) (b : ℕ) (line : Line) → BlankByte b → Has text line → Has (text ++ b ∷ []) (after_blank line)
after_one_blank text b Blanks blank h = All-push BlankByte text b h blank
after_one_blank text b (Digits a) blank h = (h.0, one_blank_more b blank h.1, omega (arith, length-append h.1.after (b ∷ [])), h.3)
after_one_blank text b (Closed a) blank h = (h.0, one_blank_more b blank h.1, omega (arith, length-append h.1.after (b ∷ [])), h.3)
after_one_blank text b Broken blank h = λ more n w. h (b ∷ more) n (subst (λ l. Writes l n) (append_assoc text (b ∷ []) more) w)

abbrev first_digit : (text : List ℕ) (b d : ℕ) → DigitByte b → d ≡ b - 48 → AllByRecursion BlankByte text → Writes (text ++ b ∷ []) d
first_digit text b d digit e blank = record {
  before = text;
  digits = b ∷ [];
  after = [];
  is = refl;
  blank_before = blank;
  all_digits = (digit, tt);
  some = omega arith;
  blank_after = tt;
  value = omega (arith, worth_push [] b);
}

abbrev one_digit_more : {text : List ℕ} {n : ℕ} (b d : ℕ) → DigitByte b → d ≡ b - 48 → (w : Writes text n) → w.after ≡ [] → Writes (text ++ b ∷ []) (n * 10 + d)
one_digit_more b d digit e w none = record {
  before = w.before;
  digits = w.digits ++ b ∷ [];
  after = [];
  is =
      ap (λ t. t ++ b ∷ []) (w.is ∙ ap (λ z. w.before ++ (w.digits ++ z)) none ∙ ap (λ t. w.before ++ t) (append-nil w.digits)) ∙ append_assoc w.before w.digits (b ∷ [])
      ∙ ap (λ t. w.before ++ t) (sym (append-nil (w.digits ++ b ∷ [])));
  blank_before = w.blank_before;
  all_digits = All-push DigitByte w.digits b w.all_digits digit;
  some = omega (arith, length-append w.digits (b ∷ []));
  blank_after = tt;
  value = omega (arith, worth_push w.digits b, w.value);
}

-- a digit after digits and a blank
pub digit_apart : {text : List ℕ} {n : ℕ} (b : ℕ) → DigitByte b → (w : Writes text n) → 0 < length w.after → Has (text ++ b ∷ []) Broken
digit_apart {text} b digit w some more m v =
    let e = append_assoc text (b ∷ []) more ∙ ap (λ t. t ++ b ∷ more) w.is ∙ append_assoc w.before (w.digits ++ w.after) (b ∷ more) ∙ ap (λ t. w.before ++ t) (append_assoc w.digits w.after (b ∷ more)) in
    let same = one_run w.before w.digits (w.after ++ b ∷ more) v e w.blank_before w.all_digits w.some (blanks_open w.after (b ∷ more) w.blank_after some) in
    apart b (all_at BlankByte w.after b more (subst (AllByRecursion BlankByte) (sym same.1) v.blank_after)) digit

pub after_one_digit : (text : List ℕ) (b d : ℕ) (line : Line) → DigitByte b → d ≡ b - 48 → Has text line → Has (text ++ b ∷ []) (after_digit line d)
after_one_digit text b d Blanks digit e h = (d, first_digit text b d digit e h, refl, refl)
after_one_digit text b d (Digits a) digit e h = (h.0 * 10 + d, one_digit_more b d digit e h.1 h.2, refl, ap (λ x. longer x d) h.3 ∙ longer_amount h.0 d)
after_one_digit text b d (Closed a) digit e h = digit_apart b digit h.1 h.2
after_one_digit text b d Broken digit e h = λ more n w. h (b ∷ more) n (subst (λ l. Writes l n) (append_assoc text (b ∷ []) more) w)

pub after_other : (text : List ℕ) (b : ℕ) → (BlankByte b → ⊥) → (DigitByte b → ⊥) → Has (text ++ b ∷ []) Broken
after_other text b no_blank no_digit more n w = ⊎_elim no_blank no_digit (all_at Known text b more (subst (AllByRecursion Known) (append_assoc text (b ∷ []) more) (known w)))

-- at the end
no_digit_in : (a d z : List ℕ) → AllByRecursion BlankByte (a ++ (d ++ z)) → AllByRecursion DigitByte d → 0 < length d → ⊥
no_digit_in a [] z blank digits some = omega arith
no_digit_in a (x ∷ xs) z blank digits some = apart x (all_at BlankByte a x (xs ++ z) blank) digits.0

says_none : {text : List ℕ} → ((n : ℕ) → Writes text n → ⊥) → Says text (Err NotANumber)
says_none none = record {
  taken = λ n e. absurd (cc);
  takes = λ n w h. absurd (none n w);
  too_large = λ e. absurd (cc);
  exceeds = λ n w h. absurd (none n w);
  no_number = λ e. none;
  no_other = λ f. refl;
}

says_fits : {text : List ℕ} {n : ℕ} → Writes text n → n < 2 ^ 32 → Says text (Ok n)
says_fits {text} {n} w below = record {
  taken = λ m e. let same : n ≡ m = cc in (subst (Writes text) same w, omega arith);
  takes = λ m v h. ap Ok (one_number w v);
  too_large = λ e. absurd (cc);
  exceeds = λ m v h. absurd (omega (arith, one_number w v));
  no_number = λ e. absurd (cc);
  no_other = λ f. absurd (f n w);
}

says_exceeds : {text : List ℕ} {n : ℕ} → Writes text n → 2 ^ 32 ≤ n → Says text (Err TooLarge)
says_exceeds {text} {n} w above = record {
  taken = λ m e. absurd (cc);
  takes = λ m v h. absurd (omega (arith, one_number w v));
  too_large = λ e. (n, w, above);
  exceeds = λ m v h. refl;
  no_number = λ e. absurd (cc);
  no_other = λ f. absurd (f n w);
}

says_number : {text : List ℕ} {n : ℕ} (a : Option ℕ) → Writes text n → a ≡ amount_of n → Says text (said_of a)
says_number {text} {n} a w e =
    subst (λ x. Says text (said_of x)) (sym e)
    (⊎_elim
    (λ (h : n < 2 ^ 32). subst (λ x. Says text (said_of x)) (sym (amount_fits n h)) (says_fits w h))
    (λ (h : 2 ^ 32 ≤ n). subst (λ x. Says text (said_of x)) (sym (amount_exceeds n h)) (says_exceeds w h))
    (cases_lt n (2 ^ 32)))

pub says : (text : List ℕ) (line : Line) → Has text line → Says text (said line)
says text Blanks h = says_none (λ n w. no_digit_in w.before w.digits w.after (subst (AllByRecursion BlankByte) w.is h) w.all_digits w.some)
says text (Digits a) h = says_number a h.1 h.3
says text (Closed a) h = says_number a h.1 h.3
says text Broken h = says_none (λ n w. h [] n (subst (λ l. Writes l n) (sym (append-nil text)) w))

-- the same of an answer that is what the line says
pub says_answer : (line : Line) (answer : Result ℕ LineFault) → said line ≡ answer → (text : List ℕ) → Has text line → Says text answer
says_answer line answer e text h = subst (Says text) e (says text line h)

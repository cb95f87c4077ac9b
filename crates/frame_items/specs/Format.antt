-- Items in a row of bytes: each in so many bytes, rising by rank. Reading a row and writing it are each other's inverse wherever that holds of one item.
use Rattle.std.specs.Prelude.{◌≡◌, ℕ, zero, suc, ◌+◌, ◌*◌, ◌/◌, ◌<◌, ◌≤◌, List, [], ◌∷◌, ◌++◌, length, take, drop, Some, None, Option}
use Rattle.std.proofs.Math.Path.{refl, sym, ap, ap₂}
use Rattle.std.proofs.Common.{◌∙◌, zero-mul, arith, length-append, take-add}
use mathlib.Core.List.{append_assoc}
use Rattle.std.proofs.Math.Nat.{add-mul}
use Rattle.std.proofs.Math.ListN.{length-drop}
use Rattle.std.specs.List.{flat_map}
use Rattle.std.proofs.lemmas.List.{take_at, drop_at, length-take-le}
use Rattle.big_endian.specs.BigEndian.{Octets, octets_take, octets_drop, octets_append, octets_nil}
use Rattle.protocol.specs.declared.refusal.FrameFault.{FrameFault}

-- how an item is written, read and judged
pub record Format (I : Type 0) : Type 1 where
  pub width : ℕ
  pub bytes : I → List ℕ
  -- the item that bytes show
  pub shows : List ℕ → I
  -- in a row, items rise by this
  pub rank : I → ℕ
  -- what is asked of an item by itself
  pub Fair : I → Type 0
  -- the first condition that bytes at a place fail, after an item of a rank
  pub fault : ℕ → ℕ → List ℕ → Option FrameFault

pub record Sound {I : Type 0} (format : Format I) : Type 0 where
  pub long : (x : I) → length (format.bytes x) ≡ format.width
  pub octets : (x : I) → format.Fair x → Octets (format.bytes x)
  pub back : (x : I) → format.Fair x → format.shows (format.bytes x) ≡ x
  pub passes : (x : I) → format.Fair x → (before place : ℕ) → before < format.rank x → format.fault before place (format.bytes x) ≡ None
  pub only : (b : List ℕ) → length b ≡ format.width → Octets b → (before place : ℕ) → format.fault before place b ≡ None → (format.bytes (format.shows b) ≡ b) × format.Fair (format.shows b) × (before < format.rank (format.shows b))

-- the first fault of two
abbrev pub or_else : Option FrameFault → Option FrameFault → Option FrameFault
or_else None later = later
or_else (Some fault) later = Some fault

pub parts_none : (first later : Option FrameFault) → or_else first later ≡ None → (first ≡ None) × (later ≡ None)
parts_none None later e = (refl, e)
parts_none (Some fault) later e = let z : ◌≡◌ {A = ℕ} 0 1 = cc in absurd (omega arith)

module _ {I : Type 0} (format : Format I) where
  -- items that are fair, each of a higher rank than the one before
  unfoldable pub Row : ℕ → List I → Type 0
  Row before [] = Unit {0}
  Row before (x ∷ xs) = (before < format.rank x) × format.Fair x × Row (format.rank x) xs

  -- the first n items that bytes show
  unfoldable pub shown_row : ℕ → List ℕ → List I
  shown_row zero b = []
  shown_row (suc n) b = format.shows (take format.width b) ∷ shown_row n (drop format.width b)

  -- the items of a part of the bytes, as many as fit
  abbrev pub row_of : List ℕ → List I
  row_of b = shown_row (length b / format.width) b

  -- the first fault of n items from a place on
  unfoldable pub row_fault : ℕ → ℕ → ℕ → List ℕ → Option FrameFault
  row_fault zero before place b = None
  row_fault (suc n) before place b =
      or_else (format.fault before place (take format.width b)) (row_fault n (format.rank (format.shows (take format.width b))) (place + format.width) (drop format.width b))

  abbrev pub row_bytes : List I → List ℕ
  row_bytes xs = flat_map format.bytes xs

  module _ (sound : Sound format) where
    pub length_row : (xs : List I) → length (row_bytes xs) ≡ length xs * format.width
    length_row [] = sym (zero-mul format.width)
    length_row (x ∷ xs) = length-append (format.bytes x) (row_bytes xs) ∙ ap₂ ◌+◌ (sound.long x) (length_row xs) ∙ omega (arith, add-mul 1 (length xs) format.width)

    pub octets_row : (xs : List I) (before : ℕ) → Row before xs → Octets (row_bytes xs)
    unfolding Row
    octets_row [] before r = octets_nil
    octets_row (x ∷ xs) before r = octets_append (format.bytes x) (row_bytes xs) (sound.octets x r.1) (octets_row xs (format.rank x) r.2)

    front : (x : I) (q : List ℕ) → take format.width (format.bytes x ++ q) ≡ format.bytes x
    front x q = take_at (format.bytes x) q format.width (sound.long x)

    behind : (x : I) (q : List ℕ) → drop format.width (format.bytes x ++ q) ≡ q
    behind x q = drop_at (format.bytes x) q format.width (sound.long x)

    -- reading a written row gives it back
    pub row_back : (xs : List I) (before : ℕ) (rest : List ℕ) → Row before xs → shown_row (length xs) (row_bytes xs ++ rest) ≡ xs
    unfolding Row shown_row
    row_back [] before rest r = refl
    row_back (x ∷ xs) before rest r =
        let q = row_bytes xs ++ rest in
        let split = append_assoc (format.bytes x) (row_bytes xs) rest in
        let first : format.shows (take format.width (row_bytes (x ∷ xs) ++ rest)) ≡ x = ap (λ z. format.shows (take format.width z)) split ∙ ap format.shows (front x q) ∙ sound.back x r.1 in
        let others = ap (λ z. shown_row (length xs) (drop format.width z)) split ∙ ap (shown_row (length xs)) (behind x q) ∙ row_back xs (format.rank x) rest r.2 in
        ap₂ ◌∷◌ first others

    pub row_passes : (xs : List I) (before place : ℕ) (rest : List ℕ) → Row before xs → row_fault (length xs) before place (row_bytes xs ++ rest) ≡ None
    unfolding Row row_fault
    row_passes [] before place rest r = refl
    row_passes (x ∷ xs) before place rest r =
        let w = format.width in
        let q = row_bytes xs ++ rest in
        let split = append_assoc (format.bytes x) (row_bytes xs) rest in
        let head : take w (row_bytes (x ∷ xs) ++ rest) ≡ format.bytes x = ap (take w) split ∙ front x q in
        let tail : drop w (row_bytes (x ∷ xs) ++ rest) ≡ q = ap (drop w) split ∙ behind x q in
        ap₂ (λ y z. or_else (format.fault before place y) (row_fault (length xs) (format.rank (format.shows y)) (place + w) z)) head tail
        ∙ ap₂ (λ o y. or_else o (row_fault (length xs) (format.rank y) (place + w) q)) (sound.passes x r.1 before place r.0) (sound.back x r.1)
        ∙ row_passes xs (format.rank x) (place + w) rest r.2

    -- a row without a fault is the writing of what it shows
    pub row_only : (n : ℕ) (b : List ℕ) (before place : ℕ) → n * format.width ≤ length b → Octets b → row_fault n before place b ≡ None → (row_bytes (shown_row n b) ≡ take (n * format.width) b) × Row before (shown_row n b)
    unfolding Row shown_row row_fault
    row_only zero b before place l o e = (ap (λ k. take k b) (sym (zero-mul format.width)), tt)
    row_only (suc n) b before place l o e =
        let w = format.width in
        let m = add-mul 1 n w in
        let head = take w b in
        let p = parts_none (format.fault before place head) _ e in
        let one = sound.only head (length-take-le w b (omega arith)) (octets_take w b o) before place p.0 in
        let more = row_only n (drop w b) (format.rank (format.shows head)) (place + w) (omega (arith, length-drop w b)) (octets_drop w b o) p.1 in
        (ap₂ ◌++◌ one.0 more.0 ∙ sym (take-add w (n * w) b) ∙ ap (λ k. take k b) (omega arith), (one.2, one.1, more.1))

  pub length_shown : (n : ℕ) (b : List ℕ) → length (shown_row n b) ≡ n
  unfolding shown_row
  length_shown zero b = refl
  length_shown (suc n) b = ap suc (length_shown n (drop format.width b))

-- Parts of a memory of which one was lent and changed.
use Rattle.std.proofs.Common.{◌≡◌, ℕ, ◌+◌, ◌-◌, ◌≤◌, List, length, take, drop, sym, ap, ◌∙◌, subst, arith}
use borrow.Rule.Slice.PartMut.{put_mid, same_len_mid}
use Rattle.std.proofs.lemmas.List.{drop-take, length-drop, length-take-le}
use Rattle.std.proofs.lemmas.Slice.{between-put_mid, take-put_mid_below, drop-put_mid}
use Rattle.table.specs.Parts.{part, PartBecame}

pub length_part : {X : Type 0} (a n : ℕ) (memory : List X) → a + n ≤ length memory → length (part a n memory) ≡ n
length_part a n memory h = length-take-le n (drop a memory) (omega (arith, length-drop a memory))

module _ {X : Type 0} (a n : ℕ) (memory left : List X) where
  pub part_here : a + n ≤ length memory → length left ≡ n → part a n (put_mid a n memory left) ≡ left
  part_here h l = let e : a + n - a ≡ n = omega arith in ap (λ z. take z (drop a (put_mid a n memory left))) (sym e) ∙ between-put_mid a n memory left (a + n) (omega arith) (l ∙ sym e)

  pub part_before : (b m : ℕ) → b + m ≤ a → a + n ≤ length memory → part b m (put_mid a n memory left) ≡ part b m memory
  part_before b m h w = sym (drop-take b m (put_mid a n memory left)) ∙ ap (drop b) (take-put_mid_below a n memory left (b + m) h (omega arith)) ∙ drop-take b m memory

  pub part_after : (b m : ℕ) → a + n ≤ b → a + n ≤ length memory → length left ≡ n → part b m (put_mid a n memory left) ≡ part b m memory
  part_after b m h w l = ap (take m) (drop-put_mid a n memory left b h (omega arith) l)

  pub length_put : a + n ≤ length memory → length left ≡ n → length (put_mid a n memory left) ≡ length memory
  length_put h l = same_len_mid a n memory left (l ∙ sym (length_part a n memory h))

  -- what the memory of a lender is, when the part that it lent comes back
  pub part_became : a + n ≤ length memory → length left ≡ n → PartBecame a n memory (put_mid a n memory left) left
  part_became h l = record {
    here = part_here h l;
    lower = λ b m t. part_before b m t h;
    higher = λ b m t. part_after b m t h l;
    long = length_put h l;
  }

-- the same, where a slice from a to a + n was lent, which holds `last` when it comes back
pub lent_back : {X : Type 0} (a n k : ℕ) (memory last left : List X) → k ≡ n → a + n ≤ length memory → length left ≡ n → last ≡ left → PartBecame a n memory (put_mid a k memory last) left
lent_back a n k memory last left e h l q = subst (λ z. PartBecame a n memory (put_mid a z memory last) left) (sym e) (subst (λ z. PartBecame a n memory (put_mid a n memory z) left) (sym q) (part_became a n memory left h l))

-- Writing a buffer from its front, part after part.
use Rattle.std.proofs.Common.{◌≡◌, ℕ, ◌≤◌, List, ◌++◌, length, drop, arith, rules}
use borrow.Rule.Slice.PartMut.{put_mid}
use Rattle.std.proofs.lemmas.List.{same_lists, places}

-- p is written already, and b is the next k bytes
pub put_next : {X : Type 0} (p q b : List X) (n k : ℕ) → length p ≡ n → length b ≡ k → k ≤ length q → put_mid n k (p ++ q) b ≡ (p ++ b) ++ drop k q
put_next p q b n k l m h = same_lists _ _ (search (rules, places)) (λ i d t. grind (arith, places))

-- One frame more in the ring.
use Rattle.std.proofs.Common.{◌≡◌, ℕ, zero, suc, ◌+◌, ◌%◌, ◌<◌, ◌≢◌, List, [], ◌∷◌, ◌++◌, length, get_or, set, refl, ap, ◌∙◌, ap₂, add-one, arith}
use Rattle.std.proofs.lemmas.List.{get_or-set_same, get_or-set_other}
use Rattle.line.specs.Held.{blank, content}
use Rattle.line.specs.Queue.{around, queued, next_place}
use Rattle.line.specs.declared.held.Held.{Held}
use Rattle.line.specs.declared.queue.Queue.{Queue}

length_around : (places : List Held) (at n : ℕ) → length (around places at n) ≡ n
length_around places at zero = refl
length_around places at (suc n) = ap suc (length_around places (next_place at) n)

-- as many frames wait as the queue counts
pub length_queued : (queue : Queue) → length (queued queue) ≡ queue.count
length_queued queue = length_around queue.places queue.first queue.count

around_suc : (places : List Held) (at n : ℕ) (held : Held) → at < 8 → n < 8 → length places ≡ 8 → around (set places ((at + n) % 8) held) at (suc n) ≡ around places at n ++ content held ∷ []
around_suc places at zero held h l e =
    let j : (at + 0) % 8 ≡ at = omega arith in
    ap (λ k. content (get_or (set places k held) at blank) ∷ []) j ∙ ap (λ z. content z ∷ []) (get_or-set_same places at held blank (omega arith))
around_suc places at (suc n) held h l e =
    let other : at ≢ (at + suc n) % 8 = omega arith in
    let same : (at + suc n) % 8 ≡ ((at + 1) % 8 + n) % 8 = omega arith in
    ap₂ (λ a b. content a ∷ b) (get_or-set_other places ((at + suc n) % 8) at held blank other)
    (ap (λ k. around (set places k held) ((at + 1) % 8) (suc n)) same ∙ around_suc places ((at + 1) % 8) n held (omega arith) (omega arith) e)

-- one frame more, in the first free place
pub around_push : (places : List Held) (at n : ℕ) (held : Held) → at < 8 → n < 8 → length places ≡ 8 → around (set places ((at + n) % 8) held) at (n + 1) ≡ around places at n ++ content held ∷ []
around_push places at n held h l e = ap (around (set places ((at + n) % 8) held) at) (add-one n) ∙ around_suc places at n held h l e

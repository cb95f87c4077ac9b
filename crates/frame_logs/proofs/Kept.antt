-- Steps of the reader of digits.
use Rattle.std.proofs.Common.{◌≡◌, ℕ, ◌<◌, ◌↔◌, List, [], ◌∷◌, ◌++◌, length, Ok, Err, Result, IsOk, OnOk, OnErr, refl, sym, ap, ◌∙◌, arith, length-append}
use Rattle.std.proofs.lemmas.List.{take_all, take-append-le}
use Rattle.arrayvec.specs.ArrayVec.{ArrayVec, array_vec_len}
use Rattle.frame_logs.specs.Hexadecimal.{decoded}
use Rattle.frame_logs.specs.Steps.{Seen, push, start, after, answer_at, answer, answered, kept_of}

-- a byte more while there is room, and else none
pub kept_more : {A E : Type 0} (v w : ArrayVec ℕ) (b : ℕ) (r : Result A E) → IsOk r ↔ (array_vec_len v < 1837) → OnOk r (w.items ≡ v.items ++ b ∷ []) → OnErr r (w ≡ v) → OnErr r (array_vec_len v ≡ 1837) → w.items ≡ push v.items b
kept_more v w b (Ok u) room pushed same full =
    let l : length v.items < 1837 = room.0 refl in
    pushed ∙ sym (take_all 1837 (v.items ++ b ∷ []) (omega (arith, length-append v.items (b ∷ []))))
kept_more v w b (Err e) room pushed same full =
    ap (λ z. z.items) same ∙ sym (take-append-le 1837 v.items (b ∷ []) (omega arith) ∙ take_all 1837 v.items (omega arith))

pub kept_decoded : (text : List ℕ) (seen : Seen) → seen ≡ after start text → kept_of (decoded text) ≡ answer_at seen.standing seen.bytes
kept_decoded text seen h = sym (answered text) ∙ ap answer (sym h)

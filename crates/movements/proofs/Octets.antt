-- What the loops keep that write a tally's pairs into bytes and read them back.
use Rattle.std.proofs.Common.{◌≡◌, ℕ, ◌+◌, ◌*◌, ◌<◌, ◌≤◌, List, [], ◌++◌, length, get_or, take, drop, sym, refl, ap, ◌∙◌, ap₂, append_assoc, append-nil, arith, length-append, length-drop}
use borrow.Rule.Slice.PartMut.{put_mid}
use Rattle.std.specs.List.{flat_map}
use Rattle.std.proofs.lemmas.List.{drop-drop, drop_all, take_all, take_more, length-take-le, flat_map_more}
use Rattle.big_endian.specs.BigEndian.{four_bytes}
use Rattle.big_endian.proofs.Parts.{put_next}
use Rattle.movements.specs.declared.pair.Pair.{Pair}
use Rattle.movements.specs.Pairs.{unused}
use Rattle.movements.specs.Coding.{pair_bytes, with_pair_at, length_pairs}

pairs_more : (ps : List Pair) (i : ℕ) → i < length ps → flat_map pair_bytes (take (i + 1) ps) ≡ flat_map pair_bytes (take i ps) ++ pair_bytes (get_or ps i unused)
pairs_more ps i h = ap (flat_map pair_bytes) (take_more ps i unused h) ∙ sym (flat_map_more pair_bytes [] (take i ps) (get_or ps i unused))

length_some : (ps : List Pair) (i : ℕ) → i ≤ length ps → length (flat_map pair_bytes (take i ps)) ≡ 8 * i
length_some ps i h = omega (arith, length_pairs (take i ps), length-take-le i ps h)

-- the first i pairs are written, and the bytes after them are as they were
abbrev pub Writing : List Pair → List ℕ → List ℕ → ℕ → Type 0
Writing ps entry out i = out ≡ flat_map pair_bytes (take i ps) ++ drop (8 * i) entry

pub write_more : (ps : List Pair) (entry out : List ℕ) (i : ℕ) → i < length ps → 8 * i + 8 ≤ length entry → Writing ps entry out i
    → Writing ps entry (with_pair_at out i (get_or ps i unused)) (i + 1)
write_more ps entry out i h l e =
    let front = flat_map pair_bytes (take i ps) in
    let back = drop (8 * i) entry in
    let key = four_bytes (get_or ps i unused).key in
    let count = four_bytes (get_or ps i unused).count in
    let lf = length_some ps i (omega arith) in
    let lb = length-drop (8 * i) entry in
    ap (λ z. put_mid (8 * i + 4) 4 (put_mid (8 * i) 4 z key) count) e
    ∙ ap (λ z. put_mid (8 * i + 4) 4 z count) (put_next front back key (8 * i) 4 lf refl (omega arith))
    ∙ put_next (front ++ key) (drop 4 back) count (8 * i + 4) 4 (omega (arith, length-append front key)) refl (omega (arith, length-drop 4 back))
    ∙ ap₂ ◌++◌ (append_assoc front key count ∙ sym (pairs_more ps i h)) (drop-drop 4 4 back ∙ drop-drop 8 (8 * i) entry ∙ ap (λ z. drop z entry) (omega arith))

pub write_all : (ps : List Pair) (entry out : List ℕ) (i rest : ℕ) → length ps ≡ 16 → length entry ≡ 132 → i ≡ 16 → Writing ps entry out i → put_mid 128 4 out (four_bytes rest) ≡ flat_map pair_bytes ps ++ four_bytes rest
write_all ps entry out i rest l m h e =
    let whole : flat_map pair_bytes (take i ps) ≡ flat_map pair_bytes ps = ap (flat_map pair_bytes) (take_all i ps (omega arith)) in
    let back = drop (8 * i) entry in
    ap (λ z. put_mid 128 4 z (four_bytes rest)) (e ∙ ap (λ z. z ++ back) whole)
    ∙ put_next (flat_map pair_bytes ps) back (four_bytes rest) 128 4 (omega (arith, length_pairs ps)) refl (omega (arith, length-drop (8 * i) entry))
    ∙ ap (λ z. (flat_map pair_bytes ps ++ four_bytes rest) ++ z) (drop_all 4 back (omega (arith, length-drop (8 * i) entry)))
    ∙ append-nil _

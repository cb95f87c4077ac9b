use Rattle.std.proofs.Common.{◌≡◌, ℕ, ◌<◌, ◌+◌, ◌∙◌, ap₂, sym, subst, get_or, arith}
use Rattle.std.proofs.lemmas.Bool.{ltb-true}
use Rattle.std.proofs.lemmas.List.{get_or_default}
use Rattle.tally.specs.Queues.{edges}
use Rattle.bands.specs.Bounds.{span, Bound}
use Rattle.bands.proofs.Edges.{inner}
use Rattle.bands.proofs.bounds.Bounds.of.Goals as goal

pub returns-in-Some-clause-lengths : goal.returns-in-Some-clause-lengths
returns-in-Some-clause-lengths c =
    let band = c.args.band in
    let next = c.in-Some.ensures.lookup in
    let below : band + 1 < 16 = ltb-true (band + 1) 16 (sym next.0) in
    let edge : (k x : ℕ) → k < 16 → x ≡ get_or edges k x → x ≡ get_or edges k 0 = λ k x h e. e ∙ get_or_default edges k x 0 h in
    let lengths = ap₂ span (edge band _ (omega arith) c.in_ok-first.ensures.lookup.1) (edge (band + 1) _ below next.1) in
    subst (Bound band) (sym (c.spanned.ensures ∙ lengths)) (inner band (omega arith))

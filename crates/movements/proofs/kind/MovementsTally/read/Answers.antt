use Rattle.std.proofs.Common.{◌≡◌, ℕ, arith, None, sym, ap, ◌∙◌}
use Rattle.std.proofs.lemmas.Result.{err_from_is_err_and}
use Rattle.movements.specs.Faults.{first_fault}
use Rattle.big_endian.specs.BigEndian.{four, four_small}
use Rattle.movements.specs.Coding.{rest_in, pairs_in, tally_in, read_ok}
use Rattle.movements.proofs.Lawful.{lawful_as}
use Rattle.movements.proofs.Asking.{none_told, some_told}
use Rattle.movements.proofs.kind.MovementsTally.read.Goals as goal
use Rattle.movements.proofs.kind.MovementsTally.read.Goals.{In_ok-check_pairs}

rest : (c : goal.In_ok-check_pairs) (r : ℕ) → r ≡ four c.args.bytes.now 128 → r ≡ rest_in c.args.bytes.now
rest c r e = omega (arith, e, four_small c.args.bytes.now 128 (λ i. (c.type_inv.bytes i).fits))

faultless : (c : goal.In_ok-check_pairs) → first_fault (pairs_in c.args.bytes.now) ≡ None
faultless c = ap first_fault (sym c.pairs_in-pairs.ensures) ∙ none_told _ c.in_ok-check_pairs.ensures

pub returns-in_err-check_pairs : goal.returns-in_err-check_pairs
returns-in_err-check_pairs c =
    let p = err_from_is_err_and c.from_residual.result c.from_residual.ensures.1 in
    rw (p.1, p.2) (some_told c.args.bytes.now _ _ c.pairs_in-pairs.ensures c.in_err-check_pairs.ensures)

pub invariant_of-result : goal.invariant_of-result
invariant_of-result c =
    let f = faultless (goal.at.invariant_of-result c).In_ok-check_pairs in
    let r = rest (goal.at.invariant_of-result c).In_ok-check_pairs _ c.read_at.ensures in
    let k = lawful_as (tally_in c.args.bytes.now f) _ _ c.pairs_in-pairs.ensures r in record { full = k.0; small = k.1; faultless = k.2; fits = k.3 }

pub returns : goal.returns
returns c = let at = (goal.at.returns c).In_ok-check_pairs in sym (read_ok c.args.bytes.now _ (faultless at) c.pairs_in-pairs.ensures (rest at _ c.read_at.ensures))

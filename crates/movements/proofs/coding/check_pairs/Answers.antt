use Rattle.std.proofs.Common.{ap, arith}
use Rattle.std.specs.Option.{option_map}
use Rattle.std.proofs.lemmas.Result.{err_from_is_err_and}
use Rattle.movements.specs.Coding.{reported}
use Rattle.movements.proofs.Asking.{ask_more, ask_fault, ask_all}
use Rattle.movements.proofs.coding.check_pairs.Goals as goal

pub returns-in_err-check_at : goal.returns-in_err-check_at
returns-in_err-check_at c =
    let p = err_from_is_err_and c.from_residual.result c.from_residual.ensures.1 in
    rw (p.1, p.2) (ask_fault c.args.pairs.now c.loop-index.index c.loop-index.before c.loop-index.invariant _ (omega arith) c.in_err-check_at.ensures)

pub loop-index-preserved : goal.loop-index-preserved
loop-index-preserved c = ask_more c.args.pairs.now c.loop-index.index c.loop-index.before c.loop-index.invariant (omega arith) c.in_ok-check_at.ensures

pub returns : goal.returns
returns c = ap (option_map reported) (ask_all c.args.pairs.now c.loop-index.index c.loop-index.before c.loop-index.invariant (omega arith))

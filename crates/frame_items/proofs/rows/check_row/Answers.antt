use Rattle.std.proofs.Common.{arith, rules}
use Rattle.frame_items.proofs.Walking.{walk_on, walk_stops, walk_ended}
use Rattle.frame_items.proofs.rows.check_row.Goals as goal

pub returns-in_err-check : goal.returns-in_err-check
returns-in_err-check g c =
    let step = c.in-Some.ensures.steps in
    let was = c.loop-index.invariant in
    walk_stops _ _ _ _ _ _ _ was.3 _ _ _ _ step.1 was.2 (c.width-width.ensures c.args.sender) was.0.0 step.0.1.0 step.0.1.1 _ c.in_err-check.field-0.0 (search rules) c.in_err-check.ensures

pub loop-index-preserved : goal.loop-index-preserved
loop-index-preserved g c =
    let step = c.in-Some.ensures.steps in
    let was = c.loop-index.invariant in (
      search rules,
      tt,
      search rules,
      walk_on _ _ _ _ _ _ _ was.3 _ _ _ _ step.1 was.2 (c.width-width.ensures c.args.sender) was.0.0 step.0.1.0 step.0.1.1 _ _ step.2 c.in_ok-check.ensures (c.rank-rank.ensures c.args.sender),
    )

pub returns : goal.returns
returns g c =
    let was = c.loop-index.invariant in
    walk_ended _ _ _ _ _ _ _ was.3 (omega (arith, c.in-None.ensures.steps, was.2, c.width-width.ensures c.args.sender))

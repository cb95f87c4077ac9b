use Rattle.frame_items.proofs.Writing.{Going}
use Rattle.frame_items.proofs.rows.write_row.Given as goal

abbrev pub invariant-loop-item : goal.invariant-loop-item
invariant-loop-item g l = Going (g.I.Item.format 0) l.items l.initial.out l.start l.out l.at l.item-index

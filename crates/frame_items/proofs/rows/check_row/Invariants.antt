use Rattle.std.proofs.Common.{◌≡◌}
use Rattle.std.specs.Iterator.Adapters.{enumerate_source, enumerate_count}
use Rattle.std.specs.Slice.Iter.{chunks_exact_rest, chunks_exact_size}
use Rattle.frame_items.proofs.Walking.{Walk}
use Rattle.frame_items.proofs.rows.check_row.Given as goal

abbrev pub invariant-loop-index : goal.invariant-loop-index
invariant-loop-index g l =
    (goal.iterator-loop-index g).can_next l.index-iterator
    × (goal.iterator-loop-index g).is_finite l.index-iterator
    × (chunks_exact_size (enumerate_source l.index-iterator) ≡ l.width)
    × Walk (g.I.Item.format l.sender) l.row l.place l.width (chunks_exact_rest (enumerate_source l.index-iterator)) (enumerate_count l.index-iterator) l.before

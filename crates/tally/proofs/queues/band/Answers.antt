use Rattle.std.proofs.Common.{rules, leb}
use Rattle.std.proofs.lemmas.List.Sorted.{IsPartitionPoint-from_clause}
use Rattle.tally.specs.Queues.{edges}
use Rattle.tally.proofs.Counts.{edges_split, last_before, is_band}
use Rattle.tally.proofs.queues.band.Goals as goal

pub overflow_sub-result : goal.overflow_sub-result
overflow_sub-result c =
    let p = IsPartitionPoint-from_clause (λ e. leb e c.args.length) edges c.partition_point.result c.partition_point.ensures.partitioned (edges_split c.args.length) (λ a r f' k. search rules) in
    (last_before c.args.length c.partition_point.result c.partition_point.ensures.bound p).0

pub returns : goal.returns
returns c =
    let p = IsPartitionPoint-from_clause (λ e. leb e c.args.length) edges c.partition_point.result c.partition_point.ensures.partitioned (edges_split c.args.length) (λ a r f' k. search rules) in
    let l = (last_before c.args.length c.partition_point.result c.partition_point.ensures.bound p).1 in
    record { value = is_band _ _ l; last = l }

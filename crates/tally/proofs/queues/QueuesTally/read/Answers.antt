use Rattle.std.proofs.Common.{◌*◌, Ok, ap, rules, arith}
use Rattle.big_endian.specs.BigEndian.{four_small}
use Rattle.tally.specs.Queues.{written_in}
use Rattle.tally.proofs.Made.{made_at}
use Rattle.tally.proofs.queues.QueuesTally.read.Goals as goal

pub returns : goal.returns
returns c =
    let bytes = c.args.bytes.now in
    ap Ok (c.of.ensures.only (written_in bytes) (λ k h. omega (arith, made_at _ _ (written_in bytes) (λ k y q h. search rules) c.from_fn.result 16 0 c.from_fn.ensures.items k h, four_small bytes (4 * k) (λ i. (c.type_inv.bytes i).fits))))

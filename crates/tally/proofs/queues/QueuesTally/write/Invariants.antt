use Rattle.std.proofs.Common.{◌≡◌, ◌*◌, ◌++◌, take, drop}
use Rattle.std.specs.List.{flat_map}
use Rattle.big_endian.specs.BigEndian.{four_bytes}
use Rattle.tally.proofs.queues.QueuesTally.write.Given as goal

abbrev pub invariant-loop-band : goal.invariant-loop-band
invariant-loop-band l = l.out ≡ flat_map four_bytes (take l.band l.self.counts) ++ drop (4 * l.band) l.initial.out

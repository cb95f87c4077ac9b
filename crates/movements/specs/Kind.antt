-- The tally kind `movements`, and that it is lawful.
use Rattle.std.specs.Prelude.{refl}
use Rattle.std.proofs.Common.{arith}
use Rattle.tally.specs.Kind.{Kind, Lawful}
use Rattle.movements.specs.declared.kept.Movements.{Movements}
use Rattle.movements.specs.Join.{empty, join, is_empty, only_empty, assoc, comm, unit, both_empty}
use Rattle.movements.specs.Coding.{bytes_of, read, written, octets, reads_back, reads_only, fault_within}

abbrev pub movements : Kind Movements
movements = record { code = 3; empty = empty; join = join; is_empty = is_empty; width = 132; bytes = bytes_of; read = read }

pub movements_lawful : Lawful movements
movements_lawful = record {
  code_byte = omega arith;
  assoc = assoc;
  comm = comm;
  unit = unit;
  both_empty = both_empty;
  empty_found = refl;
  only_empty = only_empty;
  width_min = omega arith;
  width_max = omega arith;
  written = written;
  octets = octets;
  reads_back = reads_back;
  reads_only = reads_only;
  fault_within = λ b _. fault_within b;
}

use Rattle.movements.specs.ByKey.{join_by_key}
use Rattle.movements.specs.ByKeyOnly.{by_key_only}
use Rattle.movements.specs.Sample.{sample}
use Rattle.movements.proofs.words.join_is_by_key.Goals as goal

pub returns : goal.returns
returns c = record { holds = join_by_key; only = λ x y z p. by_key_only x y z _ p (join_by_key x y); sample = sample }

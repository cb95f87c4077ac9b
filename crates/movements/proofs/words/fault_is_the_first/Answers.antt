use Rattle.movements.specs.ReadInWords.{fault_is_first, first_is_fault, tally_has_none}
use Rattle.movements.proofs.words.fault_is_the_first.Goals as goal

pub returns : goal.returns
returns c = record { holds = fault_is_first; only = first_is_fault; tallies = tally_has_none }

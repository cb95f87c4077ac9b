-- The numbers of conditions and refusals.
use Rattle.std.specs.Prelude.{ℕ, Some, None, Option}
use Rattle.protocol.specs.declared.refusal.Condition.{Condition}
use Rattle.protocol.specs.declared.refusal.Condition.TheVariants as conditions
use Rattle.protocol.specs.declared.refusal.Refusal.{Refusal}
use Rattle.protocol.specs.declared.refusal.Refusal.TheVariants as refusals

abbrev pub condition_number : Condition → ℕ
condition_number conditions.Length = 20
condition_number conditions.Edition = 21
condition_number conditions.Kind = 22
condition_number conditions.Parties = 23
condition_number conditions.Holding = 24
condition_number conditions.Clock = 25
condition_number conditions.Counts = 26
condition_number conditions.CountedLength = 27
condition_number conditions.Numbers = 28
condition_number conditions.ItemClock = 29
condition_number (conditions.Tally fault) = 30
condition_number conditions.OwnEntry = 31

-- the number of the tally's own fault
abbrev pub condition_inside : Condition → Option ℕ
condition_inside (conditions.Tally fault) = Some fault
condition_inside _ = None

abbrev pub refusal_number : Refusal → ℕ
refusal_number refusals.Tier = 1
refusal_number refusals.NodesFull = 2
refusal_number refusals.ServersFull = 3
refusal_number refusals.NotEnrolled = 4
refusal_number refusals.Retired = 5
refusal_number refusals.EmptyTally = 6
refusal_number refusals.LimitReached = 7
refusal_number refusals.SameNode = 8
refusal_number refusals.NoFrame = 9
refusal_number refusals.Server = 10
refusal_number refusals.ValueLeft = 11
refusal_number refusals.TokensLeft = 12
refusal_number refusals.SlotsLeft = 13
refusal_number refusals.OtherAddressee = 14
refusal_number refusals.TooShort = 15
refusal_number (refusals.Frame fault) = condition_number fault.condition

use Rattle.std.proofs.Common.{◌≡◌, drop}
use Rattle.tally.specs.Kind.{joins}
use Rattle.tally.proofs.kind.joined_all.Given as goal

abbrev pub invariant-loop-tally : goal.invariant-loop-tally
invariant-loop-tally g l = g.K.Tally.kind.join l.total (joins g.K.Tally.kind (drop l.tally-index l.tallies)) ≡ joins g.K.Tally.kind l.tallies

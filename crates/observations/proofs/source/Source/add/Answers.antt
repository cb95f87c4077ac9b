use Rattle.std.proofs.Common.{◌≡◌, [], ◌∷◌, ◌++◌, subst}
use Rattle.observations.specs.Reader.{Has}
use Rattle.observations.proofs.Reading.{has_rest}
use Rattle.observations.proofs.source.Source.add.Goals as goal

pub returns-clause-line : goal.returns-clause-line
returns-clause-line c = λ rest line h e.
    let same : c.take.new.self ≡ line = cc in
    subst (Has (rest ++ c.args.byte ∷ [])) same (c.take.ensures rest (has_rest rest c.args.self.now.line c.new.result _ h c.new.ensures c.get_or_insert.ensures.value))

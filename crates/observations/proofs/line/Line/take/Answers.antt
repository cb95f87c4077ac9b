use Rattle.std.proofs.Common.{[], ◌∷◌, ◌++◌, sym, subst}
use Rattle.observations.specs.Reader.{Has}
use Rattle.observations.proofs.Steps.{after_one_blank, after_one_digit, after_other}
use Rattle.observations.proofs.line.Line.take.Goals as goal

pub returns-in-Blank : goal.returns-in-Blank
returns-in-Blank c = λ text h. subst (Has (text ++ c.args.byte ∷ [])) (sym c.after_blank.ensures) (after_one_blank text _ _ c.in-Blank.ensures h)

pub returns-in-Digit : goal.returns-in-Digit
returns-in-Digit c =
    let m = c.in-Digit.ensures in
    λ text h. subst (Has (text ++ c.args.byte ∷ [])) (sym c.after_digit.ensures) (after_one_digit text _ _ _ m.0 m.1 h)

pub returns-in-Other : goal.returns-in-Other
returns-in-Other c =
    let m = c.in-Other.ensures in
    λ text h. after_other text _ m.0 m.1

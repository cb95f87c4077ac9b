use Rattle.std.proofs.Common.{◌≡◌, ◌+◌, ◌∙◌, ap₂, ◌∷◌, sym, subst}
use Rattle.movements.specs.Pairs.{used, least, merged}
use Rattle.movements.specs.Join.{movements_same, join}
use Rattle.movements.proofs.Lawful.{lawful_as}
use Rattle.movements.proofs.Walk.{Going, turn, over, ended, gone_on}
use Rattle.movements.proofs.kind.MovementsTally.joined.Goals as goal
use Rattle.movements.proofs.kind.MovementsTally.joined.Goals.{In_default}

pub loop-next-preserved : goal.loop-next-preserved
loop-next-preserved c =
    let x = c.args.self.now in
    let y = c.args.other.now in
    let e = c.in-Some.ensures ∙ ap₂ least (c.copied.ensures ∙ c.first.ensures.value) (c.copied-in-loop-next.ensures ∙ c.first-in-loop-next.ensures.value) in
    let to = turn c.loop-next.left.now c.loop-next.right.now c.in-Some.next e ∙ ap₂ (λ l r. c.in-Some.next ∷ merged l r) (sym c.after-left.ensures) (sym c.after-right.ensures) in
    subst (Going (used x.pairs) (used y.pairs) (x.rest + y.rest) c.after-left.result.now c.after-right.result.now) (sym c.add.ensures)
    (gone_on (used x.pairs) (used y.pairs) (x.rest + y.rest) _ _ _ _ c.loop-next.gathered c.in-Some.next c.loop-next.invariant to)

done : (c : goal.In_default) → (c.loop-next.gathered.pairs ≡ (join c.args.self.now c.args.other.now).pairs) × (c.loop-next.gathered.rest ≡ (join c.args.self.now c.args.other.now).rest)
done c =
    let e = c.in_default.ensures ∙ ap₂ least (c.copied.ensures ∙ c.first.ensures.value) (c.copied-in-loop-next.ensures ∙ c.first-in-loop-next.ensures.value) in
    ended _ _ _ _ _ _ c.loop-next.invariant (over c.loop-next.left.now c.loop-next.right.now e)

pub invariant_of-result : goal.invariant_of-result
invariant_of-result c = let d = done (goal.at.invariant_of-result c).In_default in let k = lawful_as (join c.args.self.now c.args.other.now) _ _ d.0 d.1 in record { full = k.0; small = k.1; faultless = k.2; fits = k.3 }

pub returns : goal.returns
returns c = let d = done (goal.at.returns c).In_default in movements_same _ _ d.0 d.1

use Rattle.std.proofs.Common.{◌∙◌, ap, take, unwrap_or}
use Rattle.movements.proofs.Walk.{used_before}
use Rattle.movements.proofs.kept.Movements.used.Goals as goal

pub returns : goal.returns
returns c = ap (λ n. take n c.args.self.now.pairs) (c.unwrap_or.ensures ∙ ap (λ o. unwrap_or o 16) c.first_unused.ensures) ∙ used_before c.args.self.now.pairs 16 c.args.self.now.full

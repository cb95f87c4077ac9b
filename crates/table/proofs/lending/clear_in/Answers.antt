use Rattle.std.proofs.Common.{◌≡◌, ◌+◌, ◌-◌, length, replicate, None, ap, ◌∙◌, arith, rules}
use Rattle.std.proofs.lemmas.List.{length-replicate}
use Rattle.table.specs.Parts.{part}
use Rattle.table.proofs.Parts.{lent_back, length_part}
use Rattle.table.proofs.lending.clear_in.Goals as goal

pub returns-clause-cells : goal.returns-clause-cells
returns-clause-cells g c =
    let a = c.args.start in
    let n = c.args.count in
    let cells = c.args.table.now.cells.now in
    let e : a + n - a ≡ n = omega arith in
    let l : length (part a (a + n - a) cells) ≡ n = ap (λ z. length (part a z cells)) e ∙ length_part a n cells c.requires in
    lent_back a n (a + n - a) cells c.fill.new.self (replicate n None) e c.requires (length-replicate n None) (c.fill.ensures.after (search rules) ∙ ap (λ z. replicate z None) l)

use Rattle.std.proofs.Common.{◌∷◌, length, sym, ap, ◌∙◌, arith, rules}
use Rattle.frame_items.specs.Format.{row_of}
use Rattle.frame_items.proofs.Walking.{shown_cut, shown_end}
use Rattle.frame.proofs.items.ItemsIterator.next.Goals as goal

pub returns-in_err-item-clause-steps : goal.returns-in_err-item-clause-steps
returns-in_err-item-clause-steps g c =
    let none = shown_end (g.I.Item.format 0) c.args.self.now.bytes.now (omega (arith, c.in_err-item.ensures.cases, c.width.ensures 0)) in
    search rules

pub returns-clause-steps : goal.returns-clause-steps
returns-clause-steps g c =
    let cut = c.in_ok-item.ensures.cases in
    shown_cut (g.I.Item.format 0) c.args.self.now.bytes.now c.in_ok-item.item.now c.in_ok-item.behind.now c.width.result (c.width.ensures 0) g.met.I.Item.wide cut.0 cut.1 cut.2
    ∙ ap (λ x. x ∷ row_of (g.I.Item.format 0) c.in_ok-item.behind.now) (sym (c.shown.ensures 0))

pub returns-clause-goes : goal.returns-clause-goes
returns-clause-goes g c =
    let fewer = ap length (returns-clause-steps g c) in
    search rules

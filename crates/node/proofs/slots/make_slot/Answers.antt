use Rattle.std.proofs.Common.{◌≡◌, true, false, ltb, sym, refl, ap, ◌∙◌, rules}
use Rattle.std.proofs.lemmas.Bool.{lt-ltb, le-ltb, and_left, and_right, and_from}
use Rattle.handoff.specs.Node.{is_none}
use Rattle.node.proofs.Slotting.{not_asked, asks}
use Rattle.node.proofs.slots.make_slot.Goals as goal

pub returns-then-node-frame : goal.returns-then-node-frame
returns-then-node-frame g c = record { rule = not_asked g.K.Tally.kind c.args.frame.now c.args.node.now (and_left _ _ (le-ltb _ _ c.if-node-frame.true)); clock = refl }

pub returns-then-not-frame : goal.returns-then-not-frame
returns-then-not-frame g c = record { rule = not_asked g.K.Tally.kind c.args.frame.now c.args.node.now (and_right _ _ (and_left _ _ c.if-not-frame.true)); clock = refl }

pub returns-then-is_some : goal.returns-then-is_some
returns-then-is_some g c =
    let taken : is_none c.get.result ≡ false = search rules in
    record { rule = not_asked g.K.Tally.kind c.args.frame.now c.args.node.now (and_right (ltb c.args.node.now.tier c.args.frame.now.tier) _ (and_right c.args.frame.now.holds _ (ap is_none (sym c.get.ensures) ∙ taken))); clock = refl }

pub returns : goal.returns
returns g c =
    let free : is_none c.get.result ≡ true = search rules in
    record { rule = asks g.K.Tally.kind c.args.frame.now c.args.node.now _ (and_from _ _ (lt-ltb _ _ c.if-node-frame.false) (and_from _ _ c.if-not-frame.false (ap is_none (sym c.get.ensures) ∙ free))) refl c.put.ensures; clock = refl }

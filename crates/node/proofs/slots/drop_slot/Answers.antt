use Rattle.std.proofs.Common.{Some, None, sym, refl, ap, ◌∙◌, arith}
use Rattle.std.proofs.lemmas.Bool.{lt-ltb, le-ltb, cond-true, cond-false}
use Rattle.handoff.specs.Taking.{current}
use Rattle.node.proofs.Places.{place_there}
use Rattle.node.proofs.Slotting.{drops_to, drops_none}
use Rattle.node.proofs.slots.drop_slot.Goals as goal

pub returns-in_default : goal.returns-in_default
returns-in_default g c = record { rule = drops_none g.K.Tally.kind c.args.frame.now c.args.node.now (ap (current _) (sym c.in_default.ensures) ∙ c.in_default.ensures); clocks = (refl, refl) }

pub returns-then-slot-frame : goal.returns-then-slot-frame
returns-then-slot-frame g c = record { rule = drops_to g.K.Tally.kind c.args.frame.now c.args.node.now _ None refl (ap (current _) (sym c.in-Some.ensures) ∙ cond-true _ None (Some c.in-Some.slot) (lt-ltb _ _ c.if-slot-frame.true)) c.put.ensures; clocks = (refl, refl) }

pub returns-else-slot-frame : goal.returns-else-slot-frame
returns-else-slot-frame g c = record { rule = drops_none g.K.Tally.kind c.args.frame.now c.args.node.now (ap (current _) (sym c.in-Some.ensures) ∙ cond-false _ None (Some c.in-Some.slot) (le-ltb _ _ c.if-slot-frame.false) ∙ c.in-Some.ensures); clocks = (refl, refl) }

pub put-requires : goal.put-requires
put-requires g c = omega (arith, place_there c.args.node.now.slots.places c.args.frame.now.sender c.in-Some.slot c.in-Some.ensures)

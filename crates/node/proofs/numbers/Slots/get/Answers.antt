use Rattle.std.proofs.Common.{inl, None, ◌∙◌, sym, arith, rules}
use Rattle.std.proofs.lemmas.Bool.{ltb-true, ltb-false}
use Rattle.std.proofs.lemmas.List.{get_or_default}
use Rattle.node.proofs.Places.{place_read, place_none, place_past}
use Rattle.node.proofs.numbers.Slots.get.Goals as goal

pub returns-in_err-checked_sub : goal.returns-in_err-checked_sub
returns-in_err-checked_sub c = rw c.from_residual.ensures (place_none c.args.self.now.places c.args.number c.from.result 16 c.from.ensures (search rules) (inl (omega (arith, c.in_err-checked_sub.ensures))))

pub returns-in_err-get : goal.returns-in_err-get
returns-in_err-get c =
    let i = c.in_ok-checked_sub.field-0 in
    rw c.from_residual-in_err-get.ensures (place_past c.args.self.now.places c.args.number i (omega (arith, c.from.ensures, c.in_ok-checked_sub.ensures.0, c.in_ok-checked_sub.ensures.1)) (ltb-false _ _ (sym c.in_err-get.ensures.lookup.0)))

pub returns : goal.returns
returns c =
    let i = c.in_ok-checked_sub.field-0 in
    let places = c.args.self.now.places in
    c.in_ok-get.ensures.lookup.1 ∙ get_or_default places i _ None (ltb-true _ _ (sym c.in_ok-get.ensures.lookup.0))
    ∙ place_read places c.args.number i (omega (arith, c.from.ensures, c.in_ok-checked_sub.ensures.0, c.in_ok-checked_sub.ensures.1))

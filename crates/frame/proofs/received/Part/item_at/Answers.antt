use Rattle.std.proofs.Common.{◌/◌, ◌<◌, length, sym, subst, arith}
use Rattle.frame_items.proofs.Walking.{nth_none, item_shown}
use Rattle.frame.proofs.received.Part.item_at.Goals as goal

pub returns-then-index-item_count : goal.returns-then-index-item_count
returns-then-index-item_count g c =
    let format = g.I.Item.format 0 in
    let b = c.args.self.now.bytes.now in
    nth_none format (length b / format.width) c.args.index b (omega (arith, c.item_count.ensures, c.if-index-item_count.true))

pub returns : goal.returns
returns g c =
    let format = g.I.Item.format 0 in
    let b = c.args.self.now.bytes.now in
    let w = c.width-width.ensures 0 in
    item_shown format b c.args.index c.width-width.result w (subst (λ z. c.args.index < length b / z) (sym w) (omega (arith, c.item_count.ensures, c.if-index-item_count.false))) c.shown.result (c.shown.ensures 0)

use Rattle.std.proofs.Common.{◌++◌, take, refl, ap, ◌∙◌, arith}
use Rattle.big_endian.specs.BigEndian.{four_bytes}
use Rattle.frame_items.proofs.Writing.{entry_written}
use Rattle.frame_items.proofs.entries.EntryItem.write.Goals as goal

pub returns : goal.returns
returns g c = λ _.
    let e = c.args.self.now in
    let tally = g.K.Tally.kind.bytes e.tally in
    c.write_tally.ensures ∙ ap (λ z. take 5 z ++ tally) c.write_at.ensures ∙ entry_written c.args.out.now (four_bytes e.version) tally e.number (omega (arith, c.requires)) refl

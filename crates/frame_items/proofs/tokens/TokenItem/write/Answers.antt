use Rattle.std.proofs.Common.{◌++◌, take, refl, ap, ◌∙◌, arith}
use borrow.Rule.Slice.PartMut.{put_mid}
use Rattle.big_endian.specs.BigEndian.{four_bytes}
use Rattle.frame_items.proofs.Writing.{token_written}
use Rattle.frame_items.proofs.tokens.TokenItem.write.Goals as goal

pub returns : goal.returns
returns g c = λ _.
    let t = c.args.self.now in
    let tally = g.K.Tally.kind.bytes t.tally in
    c.write_tally.ensures ∙ ap (λ z. take 10 z ++ tally) (c.write_at-2.ensures ∙ ap (λ z. put_mid 6 4 z (four_bytes t.destination_clock)) c.write_at.ensures)
    ∙ token_written c.args.out.now (four_bytes t.source_clock) (four_bytes t.destination_clock) tally t.source t.destination (omega (arith, c.requires)) refl refl

use Rattle.std.proofs.Common.{refl, ap, ◌∙◌}
use borrow.Rule.Slice.PartMut.{put_mid}
use Rattle.big_endian.specs.BigEndian.{four_bytes}
use Rattle.frame_items.proofs.Writing.{slot_written}
use Rattle.frame_items.proofs.slots.SourceSlotItem.write.Goals as goal

pub returns : goal.returns
returns c = λ _.
    let s = c.args.self.now in
    c.write_at-2.ensures ∙ ap (λ z. put_mid 5 4 z (four_bytes s.slot.destination_clock)) c.write_at.ensures
    ∙ slot_written c.args.out.now (four_bytes s.slot.source_clock) (four_bytes s.slot.destination_clock) s.source c.requires refl refl

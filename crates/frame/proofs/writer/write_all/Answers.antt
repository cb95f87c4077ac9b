use Rattle.std.proofs.Common.{◌≡◌, ◌+◌, ◌*◌, ◌++◌, length, drop, ap, ◌∙◌, append_assoc, arith, length-append, rules}
use borrow.Rule.Slice.PartMut.{put_mid}
use Rattle.frame_items.specs.Format.{row_bytes, length_row}
use Rattle.frame_items.specs.Items.{slots, tokens, entries, slots_sound, tokens_sound}
use Rattle.frame_items.proofs.Writing.{row_after}
use Rattle.frame.proofs.writer.write_all.Goals as goal

pub returns : goal.returns
returns g c =
    let kind = g.K.Tally.kind in
    let laws = g.K.Tally.laws in
    let b = c.args.out.now in
    let h = c.args.header.now in
    let s = row_bytes (slots 0) c.args.frame.now.slots.now in
    let t = row_bytes (tokens kind) c.args.frame.now.tokens.now in
    let e = row_bytes (entries kind) c.args.frame.now.entries.now in
    let long : length h ≡ 17 = search rules in
    let ls = length_row (slots 0) (slots_sound 0) c.args.frame.now.slots.now in
    let lt = length_row (tokens kind) (tokens_sound kind laws) c.args.frame.now.tokens.now in
    let r1 = c.write_row-tokens_place.result in
    let r2 = c.write_row-entries_place.result in
    let r3 = c.write_row.result in
    let p1 : r1 ≡ 17 + length c.args.frame.now.slots.now * 9 = c.write_row-tokens_place.ensures.place in
    let p2 : r2 ≡ r1 + length c.args.frame.now.tokens.now * (10 + kind.width) = c.write_row-entries_place.ensures.place in
    let p3 : r3 ≡ r2 + length c.args.frame.now.entries.now * (5 + kind.width) = c.write_row.ensures.place in
    let o1 : put_mid 0 17 b c.copy_from_slice.new.self ≡ h ++ drop 17 b = ap (λ z. z ++ drop 17 b) c.copy_from_slice.ensures.after in
    let o2 = c.write_row-tokens_place.ensures.bytes ∙ row_after h s b (put_mid 0 17 b c.copy_from_slice.new.self) 17 r1 long o1 (omega arith) in
    let o3 = c.write_row-entries_place.ensures.bytes ∙ row_after (h ++ s) t b c.write_row-tokens_place.new.out r1 r2 (omega (arith, length-append h s)) o2 (omega arith) in
    let o4 = c.write_row.ensures.bytes ∙ row_after ((h ++ s) ++ t) e b c.write_row-entries_place.new.out r2 r3 (omega (arith, length-append (h ++ s) t, length-append h s)) o3 (omega arith) in
    record {
      place = omega arith;
      bytes = o4 ∙ ap (λ z. z ++ drop r3 b) (append_assoc (h ++ s) t e ∙ append_assoc h s (t ++ e));
    }

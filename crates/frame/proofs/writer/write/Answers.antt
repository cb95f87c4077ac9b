use Rattle.std.proofs.Common.{◌++◌, drop, sym, refl, ap, ◌∙◌, arith}
use Rattle.frame_items.specs.Format.{row_bytes}
use Rattle.frame_items.specs.Items.{slots, tokens, entries}
use Rattle.frame.specs.Frames.{frame_bytes}
use Rattle.frame.specs.Written.{carried}
use Rattle.frame.proofs.Exactly.{exact, length_of_frame}
use Rattle.frame.proofs.writer.write.Goals as goal

pub returns-then-slots-gt15-clause-exact : goal.returns-then-slots-gt15-clause-exact
returns-then-slots-gt15-clause-exact g c = exact g.K.Tally.kind g.K.Tally.laws

pub returns-then-out-counted_length : goal.returns-then-out-counted_length
returns-then-out-counted_length g c =
    let kind = g.K.Tally.kind in
    let f = c.args.frame.now in
    record {
      written = (record { slots = c.if-slots-gt15.false; tokens = c.if-tokens-gt8.false; entries = c.if-entries-gt4.false }, omega (arith, length_of_frame kind g.K.Tally.laws (carried f), c.counted_length.ensures, c.if-out-counted_length.true), refl);
      exact = exact kind g.K.Tally.laws;
    }

pub returns : goal.returns
unfolding frame_bytes
returns g c =
    let kind = g.K.Tally.kind in
    let f = c.args.frame.now in
    let rows = row_bytes (slots 0) f.slots.now ++ (row_bytes (tokens kind) f.tokens.now ++ row_bytes (entries kind) f.entries.now) in
    record {
      written = (
        record { slots = c.if-slots-gt15.false; tokens = c.if-tokens-gt8.false; entries = c.if-entries-gt4.false },
        c.write_all.ensures.place ∙ sym (length_of_frame kind g.K.Tally.laws (carried f)),
        c.write_all.ensures.bytes ∙ ap (λ h. (h ++ rows) ++ drop c.write_all.result c.args.out.now) c.header_bytes-header.ensures,
      );
      exact = exact kind g.K.Tally.laws;
    }

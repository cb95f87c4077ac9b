use Rattle.std.proofs.Common.{◌+◌, ◌*◌, take, drop, refl, ap, ap₂, arith}
use Rattle.frame.specs.Frames.{shown}
use Rattle.frame.proofs.Exactly.{frame_same}
use Rattle.frame.proofs.Lying.{slots_in_part, tokens_in_part, entries_in_part}
use Rattle.frame.proofs.reader.received.Goals as goal

pub returns-clause-laid : goal.returns-clause-laid
returns-clause-laid g c =
    let b = c.args.bytes.now in
    let t = ap₂ (λ n k. n * (10 + k)) c.from-2.ensures c.width.ensures in
    record {
      sender = refl;
      tier = refl;
      slots = record { begins = refl; bytes = ap (λ k. take k (drop 17 b)) (omega (arith, c.from.ensures)); ends = omega (arith, c.requires.counted) };
      tokens = record { begins = omega (arith, c.from.ensures); bytes = ap₂ (λ k p. take k (drop p b)) (omega (arith, t)) (omega (arith, c.from.ensures)); ends = omega (arith, c.requires.counted) };
      entries = record { begins = omega (arith, c.from.ensures, t); bytes = ap₂ (λ k p. take k (drop p b)) (omega (arith, c.from.ensures, t, c.requires.counted)) (omega (arith, c.from.ensures, t)); ends = omega (arith, c.requires.counted) };
    }

pub returns-clause-view : goal.returns-clause-view
unfolding shown
returns-clause-view g c =
    let kind = g.K.Tally.kind in
    let b = c.args.bytes.now in
    let laid = returns-clause-laid g c in
    frame_same _ _ refl refl refl refl c.read_at.ensures c.read_at-2.ensures (slots_in_part kind b _ laid) (tokens_in_part kind b _ laid) (entries_in_part kind b _ laid)

use Rattle.std.proofs.Common.{◌≡◌}
use Rattle.frame_items.specs.Format.{row_of}
use Rattle.frame_items.specs.Items.{tokens}
use Rattle.framelog.specs.Lines.{with_tokens}
use Rattle.framelog.proofs.scan.Scan.accepted.Given as goal

abbrev pub invariant-loop-token : goal.invariant-loop-token
invariant-loop-token g l =
    record l.self { summary = with_tokens l.self.summary (row_of (tokens g.K.Tally.kind) l.token-iterator.bytes.now) } ≡ record l.initial.self { summary = with_tokens l.initial.self.summary (row_of (tokens g.K.Tally.kind) l.frame.tokens.bytes.now) }

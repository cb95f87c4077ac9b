use Rattle.std.proofs.Common.{◌∙◌, ap, unwrap_or}
use Rattle.observations.proofs.Reading.{has_rest, read_byte, answered_byte, read_newline, answered_newline}
use Rattle.observations.proofs.source.Source.take.Goals as goal

pub returns-then-byte-eq-NEWLINE : goal.returns-then-byte-eq-NEWLINE
returns-then-byte-eq-NEWLINE c = λ text h.
    let before = c.args.self.now in
    let has = has_rest h.rest before.line c.new.result c.unwrap_or-line.result h.line c.new.ensures (c.unwrap_or-line.ensures ∙ ap (λ hand. unwrap_or hand c.new.result) c.take.ensures.value) in
    let middle = ap (λ hand. record before { line = hand }) c.take.ensures.after in
    let ends = c.end_line.ensures h.lines h.rest in
    let newline = c.if-byte-eq-NEWLINE.true in
    (read_newline text _ _ _ _ _ _ newline h has middle ends, answered_newline text _ _ _ _ _ _ newline h has middle ends)

pub returns : goal.returns
returns c = λ text h.
    let plain = c.if-byte-eq-NEWLINE.false in
    (read_byte text _ _ _ plain h c.add.ensures.rest (λ line. c.add.ensures.line h.rest line h.line), answered_byte text _ _ plain h)

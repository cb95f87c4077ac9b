use Rattle.std.proofs.Common.{[], ◌∷◌, sym, subst, take, get_or}
use Rattle.std.proofs.lemmas.List.{take_more}
use Rattle.framelog.proofs.Splitting.{Reached, reached_more}
use Rattle.framelog.proofs.scan.Scan.take_chunk.Goals as goal

pub loop-byte-preserved : goal.loop-byte-preserved
loop-byte-preserved g c = λ line holds.
    let kind = g.K.Tally.kind in
    let first = c.args.self.now in
    let i = c.loop-byte.byte-index in
    let text = take i c.args.chunk.now in
    let b = get_or c.args.chunk.now i 0 in
    let taken = c.in_ok-take_byte.ensures in
    let scan = c.take_byte.new.self in
    let hand = c.take_byte.new.current.text in
    subst (λ t. Reached kind first line t scan hand) (sym (take_more c.args.chunk.now i 0 c.loop-byte-test.true)) (reached_more kind first line text (b ∷ []) c.loop-byte.self scan c.loop-byte.current.text hand (c.loop-byte.invariant line holds) taken.scan taken.line)

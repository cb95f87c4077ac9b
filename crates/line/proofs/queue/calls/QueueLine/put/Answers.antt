use Rattle.std.proofs.Common.{◌<◌, [], ◌∷◌, ◌++◌, sym, ap, ◌∙◌, rules}
use Rattle.std.proofs.lemmas.Bool.{cond-true}
use borrow.Author.Tests.{tests}
use Rattle.line.specs.Queue.{queued, accepts}
use Rattle.line.proofs.Ring.{length_queued, around_push}
use Rattle.line.proofs.queue.calls.QueueLine.put.Goals as goal

pub returns-then-accepts : goal.returns-then-accepts
returns-then-accepts c =
    let q = c.args.self.now in
    let frame = c.args.frame.now in
    let room : q.count < 8 = search (rules, tests) in
    around_push q.places q.first q.count c.hold.new.self q.ring.1 room q.ring.0
    ∙ ap (λ f. queued q ++ f ∷ []) c.hold.ensures
    ∙ sym (cond-true _ _ _ (ap (λ n. accepts n frame) (length_queued q) ∙ sym c.if-accepts.ensures))

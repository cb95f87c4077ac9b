use Rattle.std.proofs.Common.{◌+◌, ◌%◌, refl, ap, ◌∙◌, arith, rules}
use Rattle.std.proofs.lemmas.Iterator.{YieldsList-from_range}
use borrow.Author.Tests.{tests}
use Rattle.line.proofs.Found.{found, first_answer}
use Rattle.line.proofs.Turns.{by_steps, held_in, places_after, turn_found}
use Rattle.line.proofs.board.Board.turn.Goals as goal

pub returns : goal.returns
returns c =
    let board = c.args.self.now in
    let h = held_in board.frames in
    let answer = found (λ f. (f.0, f.1.now)) (λ step. h ((board.next + step) % 16)) _ (λ x r q k. search (rules, tests)) c.find_map.result _ _ (YieldsList-from_range 0 16 16 refl refl) c.find_map.ensures.runs in
    let is = turn_found board c.find_map.result (answer ∙ by_steps board.frames board.next 0 16 ∙ ap (λ k. first_answer h (places_after k 16)) (omega arith)) in
    record { turn = is.turn; within = is.within; frame = is.frame }

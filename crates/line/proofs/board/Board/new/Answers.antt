use Rattle.std.proofs.Common.{◌≡◌, ℕ, get_or, None, ⊎_elim, arith, rules}
use Rattle.std.proofs.lemmas.List.{get_or_past}
use Rattle.std.proofs.lemmas.Bool.{cases_lt}
use borrow.Author.Tests.{tests}
use Rattle.line.proofs.Posts.{unheard_shows, unheard_waiting}
use Rattle.line.proofs.board.Board.new.Goals as goal

pub returns : goal.returns
returns c =
    let items = c.from_fn.ensures.items in
    let none : (at : ℕ) → get_or c.from_fn.result at None ≡ None = λ at.
    ⊎_elim (λ low. let call = (items.at at None low).2 in search (rules, tests)) (λ past. get_or_past c.from_fn.result at None (omega (arith, items.long))) (cases_lt at 16) in
    record { empty = unheard_waiting c.from_fn.result none; start = unheard_shows c.from_fn.result none }

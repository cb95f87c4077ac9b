use Rattle.std.proofs.Common.{ap, ◌∙◌, eqb, arith, rules, tests}
use Rattle.std.proofs.lemmas.Iterator.Search.{any_from_yields_List}
use Rattle.frame_items.specs.Format.{row_of}
use Rattle.frame_items.specs.Items.{entries, has_entry}
use Rattle.frame_items.proofs.Walking.{chunks_show, any_has}
use Rattle.frame_items.proofs.rows.has_entry.Goals as goal

pub returns : goal.returns
returns g c =
    let kind = g.K.Tally.kind in
    let number = c.args.number in
    any_from_yields_List (λ e. eqb e.number number) _ _ _ c.any.ensures.ran (chunks_show (entries kind) (omega arith) (omega (arith, c.chunks_exact.ensures.size, c.width-width.ensures))) (λ x b q k. search (rules, tests))
    ∙ any_has number (row_of (entries kind) _) ∙ ap (λ b. has_entry number (row_of (entries kind) b)) c.chunks_exact.ensures.rest

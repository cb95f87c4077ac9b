use Rattle.std.proofs.Common.{rules, tests}
use Rattle.std.specs.Option.{option_to_list}
use Rattle.std.proofs.lemmas.Iterator.{YieldsList-from_slice, YieldsList-from_map}
use Rattle.std.proofs.lemmas.Iterator.Adapters.{YieldsList-from_flatten}
use Rattle.std.proofs.lemmas.Iterator.Consumers.{YieldsList-at, YieldsList-from_filter}
use Rattle.table.specs.Order.{above, lesser}
use Rattle.table.proofs.Chains.{YieldsList-from_cell, reduce_from_calls}
use Rattle.table.proofs.above.least_above.Goals as goal

pub returns : goal.returns
returns g c =
    let keyed = g.R.Record.keyed in
    reduce_from_calls _ (lesser keyed) (λ a x r q k. search (rules, tests)) c.filter.result c.reduce.result c.reduce.ensures.ran (YieldsList-from_filter _ (above keyed c.args.last) (YieldsList-at c.filter.ensures.source (YieldsList-from_map _ keyed.key (YieldsList-at c.map.ensures.source (YieldsList-from_flatten _ _ (λ y. y.now) option_to_list (λ x j h. YieldsList-from_cell j _ h.0 h.1) (YieldsList-at c.flatten.ensures.source (YieldsList-from_slice c.args.cells.now cc)) c.flatten.ensures.front c.flatten.ensures.back c.flatten.ensures.done)) c.map.ensures.closure (λ x r q k. search rules))) c.filter.ensures.closure (λ x r q k. search (rules, tests)))

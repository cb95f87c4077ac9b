use Rattle.std.proofs.Common.{◌≡◌, eqb, sym, refl, ap, ◌∙◌, rules, tests}
use Rattle.std.specs.List.{find}
use Rattle.std.specs.Option.{option_map}
use Rattle.std.proofs.lemmas.Iterator.Adapters.{option_map_id}
use Rattle.std.proofs.lemmas.Iterator.Search.{find_from_yields_List}
use Rattle.std.proofs.lemmas.Iterator.Consumers.{YieldsList-from_first}
use Rattle.frame_items.specs.Format.{row_of}
use Rattle.frame_items.specs.Items.{slots}
use Rattle.handoff.specs.Showing.{slot_in}
use Rattle.protocol.specs.declared.records.SourceSlot.{SourceSlot}
use Rattle.node_tokens.proofs.Looking.{slot_found}
use Rattle.node_tokens.proofs.lookup.slot_of.Goals as goal

pub returns : goal.returns
returns c =
    let source = c.args.source in
    let xs = row_of (slots 0) c.items.result.bytes.now in
    let found : c.find.result ≡ find (λ s. eqb s.source source) xs = sym (option_map_id c.find.result) ∙ find_from_yields_List (λ (s : SourceSlot). eqb s.source source) c.find.new.self _ c.find.result c.find.ensures.ran (YieldsList-from_first (λ x. x) (λ s. row_of (slots 0) s.bytes.now) {s = c.items.result} xs refl) (λ x b q k. search (rules, tests)) in
    let mapped : c.map.result ≡ option_map (λ (s : SourceSlot). s.slot) c.find.result = search rules in
    mapped ∙ ap (option_map (λ (s : SourceSlot). s.slot)) found ∙ slot_found xs source ∙ ap (λ b. slot_in (row_of (slots 0) b) source) c.items.ensures

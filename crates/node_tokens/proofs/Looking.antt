-- Looking up a slot in a frame's list.
use Rattle.std.proofs.Common.{◌≡◌, ℕ, Bool, true, false, cond, eqb, List, [], ◌∷◌, Some, Option, refl, ap, ◌∙◌}
use Rattle.std.specs.List.{find}
use Rattle.std.specs.Option.{option_map}
use Rattle.protocol.specs.declared.records.SourceSlot.{SourceSlot}
use Rattle.handoff.specs.Showing.{slot_in}

either : (b : Bool) (x : SourceSlot) (o : Option SourceSlot) → option_map (λ (s : SourceSlot). s.slot) (cond b (Some x) o) ≡ cond b (Some x.slot) (option_map (λ (s : SourceSlot). s.slot) o)
either true x o = refl
either false x o = refl

-- the slot of the first that is for the source
pub slot_found : (xs : List SourceSlot) (k : ℕ) → option_map (λ (s : SourceSlot). s.slot) (find (λ s. eqb s.source k) xs) ≡ slot_in xs k
unfolding slot_in
slot_found [] k = refl
slot_found (x ∷ xs) k = either (eqb x.source k) x (find (λ s. eqb s.source k) xs) ∙ ap (λ o. cond (eqb x.source k) (Some x.slot) o) (slot_found xs k)

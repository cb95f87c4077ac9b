-- What a lawful frame shows, by number: its lists as tables.
use Rattle.std.specs.Prelude.{ℕ, cond, ◌&&◌, List, [], ◌∷◌, Some, None, Option, ◌==◌}
use Rattle.protocol.specs.declared.records.Slot.{Slot}
use Rattle.protocol.specs.declared.records.SourceSlot.{SourceSlot}
use Rattle.protocol.specs.declared.records.Token.{Token}
use Rattle.protocol.specs.declared.records.Entry.{Entry}
use Rattle.frame.specs.Frames.{Frame}
use Rattle.handoff.specs.Node.{View}

unfoldable pub slot_in : List SourceSlot → ℕ → Option Slot
slot_in [] k = None
slot_in (s ∷ slots) k = cond (s.source == k) (Some s.slot) (slot_in slots k)

unfoldable pub token_in : {V : Type 0} → List (Token V) → ℕ → ℕ → Option (Token V)
token_in [] k l = None
token_in (t ∷ tokens) k l = cond (t.source == k && t.destination == l) (Some t) (token_in tokens k l)

unfoldable pub entry_in : {V : Type 0} → List (Entry V) → ℕ → Option (Entry V)
entry_in [] k = None
entry_in (e ∷ entries) k = cond (e.number == k) (Some e) (entry_in entries k)

abbrev pub shows : {V : Type 0} → Frame V → View V
shows f = record {
  tier = f.tier;
  holds = f.holds;
  source_clock = f.source_clock;
  destination_clock = f.destination_clock;
  slots = slot_in f.slot_list;
  tokens = token_in f.token_list;
  entries = entry_in f.entry_list;
}

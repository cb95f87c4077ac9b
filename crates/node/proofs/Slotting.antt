-- Dropping and making a slot.
use Rattle.std.proofs.Common.{◌≡◌, ℕ, suc, ◌+◌, Bool, true, false, ◌&&◌, ltb, List, Some, Option, sym, refl, ap, ◌∙◌, arith}
use Rattle.std.proofs.lemmas.Bool.{cond-true, cond-false}
use Rattle.tally.specs.Kind.{Kind}
use Rattle.handoff.specs.Node.{put, is_none}
use Rattle.handoff.specs.Taking.{with_slots, current, drop_slot, add_slot, make_slot}
use Rattle.protocol.specs.declared.records.Slot.{Slot}
use Rattle.protocol.specs.declared.records.Token.{Token}
use Rattle.protocol.specs.declared.records.Entry.{Entry}
use Rattle.handoff.proofs.Base.{put_same}
use Rattle.node.specs.Seen.{seen, showing, by_number}
use Rattle.node.specs.Slotted.{Slotted}
use Rattle.frame.specs.declared.received.Received.{Received}
use Rattle.node.specs.declared.numbers.Node.{Node}

module _ {V : Type 0} (kind : Kind V) (f : Received) (n : Node) where
  abbrev slot_now : Option Slot
  slot_now = by_number n.slots.places f.sender

  -- drop: what stands now, and what is left of it
  pub drops_to : (n' : Node) (s : Option Slot) → n' ≡ record { number = n.number; tier = n.tier; source_clock = n.source_clock; destination_clock = n.destination_clock; version = n.version; retired = n.retired; slots = n'.slots } → current f.source_clock slot_now ≡ s → by_number n'.slots.places ≡ put (by_number n.slots.places) f.sender s → Slotted (drop_slot f.sender (showing kind f)) n n'
  unfolding drop_slot
  drops_to n' s e c w = record {
    number = ap (λ (z : Node). z.number) e;
    step = λ value own cached entries. ap (λ (z : Node). seen z value own cached entries) e ∙ ap (λ z. with_slots z (seen n value own cached entries)) (w ∙ ap (put (by_number n.slots.places) f.sender) (sym c));
  }

  pub drops_none : current f.source_clock slot_now ≡ slot_now → Slotted (drop_slot f.sender (showing kind f)) n n
  drops_none c = drops_to n slot_now refl c (sym (put_same (by_number n.slots.places) f.sender))

  abbrev asked : Bool
  asked = ltb n.tier f.tier && (f.holds && is_none slot_now)

  pub not_asked : asked ≡ false → Slotted (make_slot f.sender (showing kind f)) n n
  unfolding make_slot
  not_asked e = record { number = refl; step = λ value own cached entries. sym (cond-false asked _ _ e) }

  pub asks : (n' : Node) → asked ≡ true → n' ≡ record { number = n.number; tier = n.tier; source_clock = n.source_clock; destination_clock = n.destination_clock + 1; version = n.version; retired = n.retired; slots = n'.slots } → by_number n'.slots.places ≡ put (by_number n.slots.places) f.sender (Some (record { source_clock = f.source_clock; destination_clock = n.destination_clock })) → Slotted (make_slot f.sender (showing kind f)) n n'
  unfolding make_slot
  asks n' a e w = record {
    number = ap (λ (z : Node). z.number) e;
    step = λ value own cached entries. ap (λ (z : Node). seen z value own cached entries) e ∙ made value own cached entries ∙ sym (cond-true asked _ _ a);
  }
    where
      more : n.destination_clock + 1 ≡ suc n.destination_clock
      more = omega arith

      made : (value : V) (own cached : List (Option (Token V))) (entries : ℕ → Option (Entry V)) → seen (record { number = n.number; tier = n.tier; source_clock = n.source_clock; destination_clock = n.destination_clock + 1; version = n.version; retired = n.retired; slots = n'.slots }) value own cached entries ≡ add_slot f.sender (showing kind f) (seen n value own cached entries)
      made value own cached entries = λ z. record {
        tier = n.tier;
        own = value;
        source_clock = n.source_clock;
        destination_clock = more z;
        slots = w z;
        tokens = (seen n value own cached entries).tokens;
        version = n.version;
        entries = entries;
        retired = n.retired;
      }

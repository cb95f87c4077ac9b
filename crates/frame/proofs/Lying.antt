-- The parts of a frame's bytes show and fail what the bytes do.
use Rattle.std.proofs.Common.{◌≡◌, ℕ, not, ◌||◌, eqb, List, get_or, drop, Some, None, Ok, Err, Result, sym, ap, ◌∙◌, ap₂, arith}
use Rattle.tally.specs.Kind.{Kind}
use Rattle.protocol.specs.declared.refusal.Condition.TheVariants as condition
use Rattle.protocol.specs.declared.refusal.FrameFault.{FrameFault}
use Rattle.frame_items.specs.Format.{or_else, row_of, row_fault}
use Rattle.frame_items.specs.Items.{unless, has_entry, slots, tokens, entries}
use Rattle.frame_items.proofs.Walking.{part_long, part_shows, part_fails, slots_alike}
use Rattle.frame.specs.declared.received.Received.{Received}
use Rattle.frame.specs.Frames.{tokens_place, entries_place, slots_shown, tokens_shown, entries_shown, shown, header_fault, own_entry_fault, lists_fault, verdict, judge}
use Rattle.frame.specs.Laid.{Counted, Laid}
use Rattle.frame.specs.View.{viewed, answered, part_fault, parts_fault, PartsWithin}
use Rattle.frame.proofs.Exactly.{fine_header}

module _ {V : Type 0} (kind : Kind V) (b : List ℕ) (r : Received) (laid : Laid kind b r) where
  pub slots_in_part : row_of (slots 0) r.slots.bytes.now ≡ slots_shown b
  slots_in_part =
      part_shows (slots 0) b r.slots.bytes.now 17 (get_or b 14 0) (omega arith) laid.slots.bytes laid.slots.ends ∙ slots_alike 0 (get_or b 2 0) (get_or b 14 0) (drop 17 b)

  pub tokens_in_part : row_of (tokens kind) r.tokens.bytes.now ≡ tokens_shown kind b
  tokens_in_part = part_shows (tokens kind) b r.tokens.bytes.now (tokens_place b) (get_or b 15 0) (omega arith) laid.tokens.bytes laid.tokens.ends

  pub entries_in_part : row_of (entries kind) r.entries.bytes.now ≡ entries_shown kind b
  entries_in_part = part_shows (entries kind) b r.entries.bytes.now (entries_place kind b) (get_or b 16 0) (omega arith) laid.entries.bytes laid.entries.ends

  slots_fail : part_fault (slots r.sender) r.slots ≡ row_fault (slots (get_or b 2 0)) (get_or b 14 0) 0 17 (drop 17 b)
  slots_fail =
      part_fails (slots r.sender) b r.slots.bytes.now 17 (get_or b 14 0) (omega arith) laid.slots.bytes laid.slots.ends r.slots.place
      ∙ ap₂ (λ n p. row_fault (slots n) (get_or b 14 0) 0 p (drop 17 b)) laid.sender laid.slots.begins

  tokens_fail : part_fault (tokens kind) r.tokens ≡ row_fault (tokens kind) (get_or b 15 0) 0 (tokens_place b) (drop (tokens_place b) b)
  tokens_fail =
      part_fails (tokens kind) b r.tokens.bytes.now (tokens_place b) (get_or b 15 0) (omega arith) laid.tokens.bytes laid.tokens.ends r.tokens.place
      ∙ ap (λ p. row_fault (tokens kind) (get_or b 15 0) 0 p (drop (tokens_place b) b)) laid.tokens.begins

  entries_fail : part_fault (entries kind) r.entries ≡ row_fault (entries kind) (get_or b 16 0) 0 (entries_place kind b) (drop (entries_place kind b) b)
  entries_fail =
      part_fails (entries kind) b r.entries.bytes.now (entries_place kind b) (get_or b 16 0) (omega arith) laid.entries.bytes laid.entries.ends r.entries.place
      ∙ ap (λ p. row_fault (entries kind) (get_or b 16 0) 0 p (drop (entries_place kind b) b)) laid.entries.begins

  owned : unless (not (eqb r.tier 0) || has_entry r.sender (row_of (entries kind) r.entries.bytes.now)) condition.OwnEntry 16 None ≡ own_entry_fault kind b
  owned =
      ap₂ (λ t n. unless (not (eqb t 0) || has_entry n (row_of (entries kind) r.entries.bytes.now)) condition.OwnEntry 16 None) laid.tier laid.sender
      ∙ ap (λ es. unless (not (eqb (get_or b 3 0) 0) || has_entry (get_or b 2 0) es) condition.OwnEntry 16 None) entries_in_part

  pub parts_alike : parts_fault kind r ≡ lists_fault kind b
  unfolding lists_fault
  parts_alike = ap₂ or_else slots_fail (ap₂ or_else tokens_fail (ap₂ or_else entries_fail owned))

  pub parts_within : Counted kind b → PartsWithin r
  parts_within counted = record {
    slots = omega (arith, counted.short, laid.slots.begins, laid.slots.ends, part_long (slots 0) b r.slots.bytes.now 17 (get_or b 14 0) (omega arith) laid.slots.bytes laid.slots.ends);
    tokens = omega (arith, counted.short, laid.tokens.begins, laid.tokens.ends, part_long (tokens kind) b r.tokens.bytes.now (tokens_place b) (get_or b 15 0) (omega arith) laid.tokens.bytes laid.tokens.ends);
    entries = omega (arith, counted.short, laid.entries.begins, laid.entries.ends, part_long (entries kind) b r.entries.bytes.now (entries_place kind b) (get_or b 16 0) (omega arith) laid.entries.bytes laid.entries.ends);
  }

-- what the reader answers, where the header passes and its parts are judged
module _ {V : Type 0} (kind : Kind V) (b : List ℕ) (passed : None ≡ header_fault kind b) where
  pub counted : Counted kind b
  counted = let h = fine_header kind b (sym passed) in record { long = h.long.0; short = h.long.1; counted = h.counted }

  module _ (r : Received) (laid : Laid kind b r) where
    pub refused : (answer : Result Received FrameFault) (fault : FrameFault) → answer ≡ Err fault → Some fault ≡ parts_fault kind r → answered kind answer ≡ judge kind b
    refused answer fault e f = ap (answered kind) e ∙ ap₂ (λ o p. verdict kind (or_else o p) (shown kind b)) passed (f ∙ parts_alike kind b r laid)

    pub accepted : None ≡ parts_fault kind r → viewed kind r ≡ shown kind b → answered kind (Ok r) ≡ judge kind b
    accepted f e = ap Ok e ∙ ap₂ (λ o p. verdict kind (or_else o p) (shown kind b)) passed (f ∙ parts_alike kind b r laid)

-- The frame: what it carries, when it is lawful, its writing as bytes, and the judgement of any bytes.
use Rattle.std.specs.Prelude.{◌≡◌, ℕ, ◌+◌, ◌*◌, ◌≤◌, Bool, true, cond, not, ◌&&◌, ◌||◌, List, [], ◌∷◌, ◌++◌, length, drop, Some, None, Ok, Err, Option, Result, ◌==◌, nat_le, slice_index}
use Rattle.big_endian.specs.BigEndian.{Octets, four, four_bytes}
use Rattle.tally.specs.Kind.{Kind}
use Rattle.protocol.specs.Limits.{tier_max, clock_max, frame_bytes_min, frame_bytes_max}
use Rattle.protocol.specs.declared.records.SourceSlot.{SourceSlot}
use Rattle.protocol.specs.declared.records.Token.{Token}
use Rattle.protocol.specs.declared.records.Entry.{Entry}
use Rattle.protocol.specs.declared.refusal.Condition.TheVariants as condition
use Rattle.protocol.specs.declared.refusal.FrameFault.{FrameFault}
use Rattle.frame_items.specs.Format.{or_else, Row, row_bytes, shown_row, row_fault}
use Rattle.frame_items.specs.Items.{Number, number, unless, within_limit, has_entry, slots, tokens, entries}

-- what a frame carries
pub record Frame (V : Type 0) : Type 0 where
  pub sender : ℕ
  pub tier : ℕ
  pub addressee : ℕ
  -- whether the sender's own value is not empty
  pub holds : Bool
  pub source_clock : ℕ
  pub destination_clock : ℕ
  pub slot_list : List SourceSlot
  pub token_list : List (Token V)
  pub entry_list : List (Entry V)

-- a frame has so many entries: none above tier 0, 1 to 4 in tier 0
abbrev pub entries_allowed : ℕ → ℕ → Bool
entries_allowed tier count = cond (tier == 0) (nat_le 1 count && nat_le count 4) (count == 0)

-- the conditions on the parties, and on what the sender says of itself
abbrev pub parties_fault : List ℕ → Option FrameFault
parties_fault b =
    unless (number (slice_index b 2)) condition.Parties 2
    (unless (number (slice_index b 4) && not (slice_index b 4 == slice_index b 2)) condition.Parties 4 (unless (nat_le (slice_index b 3) tier_max) condition.Parties 3 None))

abbrev pub state_fault : List ℕ → Option FrameFault
state_fault b = unless (nat_le (slice_index b 5) 1) condition.Holding 5 (unless (within_limit (four b 6)) condition.Clock 6 (unless (within_limit (four b 10)) condition.Clock 10 None))

-- where the tokens begin
abbrev pub tokens_place : List ℕ → ℕ
tokens_place b = 17 + slice_index b 14 * 9

-- the slots that bytes show
abbrev pub slots_shown : List ℕ → List SourceSlot
slots_shown b = shown_row (slots (slice_index b 2)) (slice_index b 14) (drop 17 b)

module _ {V : Type 0} (kind : Kind V) where
  pub record LawfulFrame (f : Frame V) : Type 0 where
    pub sender_number : Number f.sender
    pub addressee_number : Number f.addressee
    pub another : f.addressee ≡ f.sender → ⊥
    pub tier_known : f.tier ≤ tier_max
    pub source_clock_within : f.source_clock ≤ clock_max
    pub destination_clock_within : f.destination_clock ≤ clock_max
    pub few_slots : length f.slot_list ≤ 15
    pub few_tokens : length f.token_list ≤ 8
    pub few_entries : entries_allowed f.tier (length f.entry_list) ≡ true
    -- each list rises, and its items are fair
    pub slot_row : Row (slots f.sender) 0 f.slot_list
    pub token_row : Row (tokens kind) 0 f.token_list
    pub entry_row : Row (entries kind) 0 f.entry_list
    -- a server shows its own entry
    pub own_entry : f.tier ≡ 0 → has_entry f.sender f.entry_list ≡ true

  -- its writing: the header, with the counts of its lists, and then the lists
  abbrev pub header_with : Frame V → ℕ → ℕ → ℕ → List ℕ
  header_with f slot_count token_count entry_count =
      1 ∷ kind.code ∷ f.sender ∷ f.tier ∷ f.addressee ∷ cond f.holds 1 0 ∷ (four_bytes f.source_clock ++ (four_bytes f.destination_clock ++ (slot_count ∷ token_count ∷ entry_count ∷ [])))

  abbrev pub header_bytes : Frame V → List ℕ
  header_bytes f = header_with f (length f.slot_list) (length f.token_list) (length f.entry_list)

  unfoldable pub frame_bytes : Frame V → List ℕ
  frame_bytes f = header_bytes f ++ (row_bytes (slots f.sender) f.slot_list ++ (row_bytes (tokens kind) f.token_list ++ row_bytes (entries kind) f.entry_list))

  -- where the entries begin
  abbrev pub entries_place : List ℕ → ℕ
  entries_place b = tokens_place b + slice_index b 15 * (10 + kind.width)

  -- the length of a frame with so many slots, tokens and entries
  abbrev pub length_with : ℕ → ℕ → ℕ → ℕ
  length_with slot-count token-count entry-count = 17 + slot-count * 9 + token-count * (10 + kind.width) + entry-count * (5 + kind.width)

  -- the length that the counts give
  abbrev pub counted_length : List ℕ → ℕ
  counted_length b = entries_place b + slice_index b 16 * (5 + kind.width)

  -- the lists that bytes show
  abbrev pub tokens_shown : List ℕ → List (Token V)
  tokens_shown b = shown_row (tokens kind) (slice_index b 15) (drop (tokens_place b) b)

  abbrev pub entries_shown : List ℕ → List (Entry V)
  entries_shown b = shown_row (entries kind) (slice_index b 16) (drop (entries_place b) b)

  -- what bytes show
  unfoldable pub shown : List ℕ → Frame V
  shown b = record {
    sender = slice_index b 2;
    tier = slice_index b 3;
    addressee = slice_index b 4;
    holds = (slice_index b 5 == 1);
    source_clock = four b 6;
    destination_clock = four b 10;
    slot_list = slots_shown b;
    token_list = tokens_shown b;
    entry_list = entries_shown b;
  }

  -- the conditions, in their order
  abbrev pub opening_fault : List ℕ → Option FrameFault
  opening_fault b =
      unless (nat_le frame_bytes_min (length b) && nat_le (length b) frame_bytes_max) condition.Length 0 (unless (slice_index b 0 == 1) condition.Edition 0 (unless (slice_index b 1 == kind.code) condition.Kind 1 None))

  abbrev pub counted_fault : List ℕ → ℕ → Option FrameFault
  counted_fault b long =
      unless (nat_le (slice_index b 14) 15) condition.Counts 14
      (unless (nat_le (slice_index b 15) 8) condition.Counts 15
      (unless (entries_allowed (slice_index b 3) (slice_index b 16)) condition.Counts 16 (unless (long == counted_length b) condition.CountedLength 14 None)))

  abbrev pub counts_fault : List ℕ → Option FrameFault
  counts_fault b = counted_fault b (length b)

  unfoldable pub header_fault : List ℕ → Option FrameFault
  header_fault b = or_else (opening_fault b) (or_else (parties_fault b) (or_else (state_fault b) (counts_fault b)))

  abbrev pub own_entry_fault : List ℕ → Option FrameFault
  own_entry_fault b = unless (not (slice_index b 3 == 0) || has_entry (slice_index b 2) (entries_shown b)) condition.OwnEntry 16 None

  unfoldable pub lists_fault : List ℕ → Option FrameFault
  lists_fault b =
      or_else (row_fault (slots (slice_index b 2)) (slice_index b 14) 0 17 (drop 17 b))
      (or_else (row_fault (tokens kind) (slice_index b 15) 0 (tokens_place b) (drop (tokens_place b) b))
      (or_else (row_fault (entries kind) (slice_index b 16) 0 (entries_place b) (drop (entries_place b) b)) (own_entry_fault b)))

  -- the first condition that bytes fail
  abbrev pub frame_fault : List ℕ → Option FrameFault
  frame_fault b = or_else (header_fault b) (lists_fault b)

  abbrev pub verdict : Option FrameFault → Frame V → Result (Frame V) FrameFault
  verdict None f = Ok f
  verdict (Some fault) f = Err fault

  -- the judgement of any bytes: the first condition that fails, or the frame
  abbrev pub judge : List ℕ → Result (Frame V) FrameFault
  judge b = verdict (frame_fault b) (shown b)

  -- bytes are accepted exactly when a lawful frame is written so, and then they show that frame
  pub record Exact : Type 0 where
    pub accepted : (b : List ℕ) → Octets b → (f : Frame V) → judge b ≡ Ok f → LawfulFrame f × (frame_bytes f ≡ b)
    pub read_back : (f : Frame V) → LawfulFrame f → judge (frame_bytes f) ≡ Ok f
    -- what a lawful frame is written as are bytes, 17 to 1,836 of them
    pub written : (f : Frame V) → LawfulFrame f → Octets (frame_bytes f) × (frame_bytes_min ≤ length (frame_bytes f)) × (length (frame_bytes f) ≤ frame_bytes_max)

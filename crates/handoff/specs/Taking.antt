-- Taking in a frame: node i takes in what a frame of sender j shows, in seven steps.
use Rattle.std.specs.Prelude.{ℕ, suc, Bool, false, cond, ◌&&◌, Some, None, Option, ◌==◌, nat_lt}
use Rattle.tally.specs.Kind.{Kind}
use Rattle.protocol.specs.declared.records.Slot.{Slot}
use Rattle.protocol.specs.declared.records.Token.{Token}
use Rattle.protocol.specs.declared.records.Entry.{Entry}
use Rattle.handoff.specs.Node.{Node, View, entry_of, put, put_pair, each, sum, used, is_none}

-- a node with other slots, tokens or entries, and all else as it was
abbrev pub with_slots : {V : Type 0} → (ℕ → Option Slot) → Node V → Node V
with_slots slots n = record { tier = n.tier; own = n.own; source_clock = n.source_clock; destination_clock = n.destination_clock; slots = slots; tokens = n.tokens; version = n.version; entries = n.entries; retired = n.retired }

abbrev pub with_tokens : {V : Type 0} → (ℕ → ℕ → Option (Token V)) → Node V → Node V
with_tokens tokens n = record { tier = n.tier; own = n.own; source_clock = n.source_clock; destination_clock = n.destination_clock; slots = n.slots; tokens = tokens; version = n.version; entries = n.entries; retired = n.retired }

abbrev pub with_entries : {V : Type 0} → (ℕ → Option (Entry V)) → Node V → Node V
with_entries entries n = record { tier = n.tier; own = n.own; source_clock = n.source_clock; destination_clock = n.destination_clock; slots = n.slots; tokens = n.tokens; version = n.version; entries = entries; retired = n.retired }

-- a token meets a slot when both clocks are equal
abbrev pub meets : {V : Type 0} → Token V → Slot → Bool
meets t s = t.source_clock == s.source_clock && t.destination_clock == s.destination_clock

-- the token, if it is there and meets the slot
abbrev pub met : {V : Type 0} → Option (Token V) → Option Slot → Option (Token V)
met None slot = None
met (Some t) None = None
met (Some t) (Some s) = cond (meets t s) (Some t) None

-- 1. Fill: a token for i that meets the slot of its source is joined to the own value, and the slot goes.
--    A server's version rises by 1, however many tokens it fills.
abbrev pub raised : {V : Type 0} → Node V → ℕ
raised n = cond (n.tier == 0) (suc n.version) n.version

abbrev pub fill_by : {V : Type 0} → Kind V → ℕ → ℕ → Option (Token V) → Node V → Node V
fill_by kind version k None n = n
fill_by kind version k (Some t) n = record { tier = n.tier; own = kind.join n.own t.tally; source_clock = n.source_clock; destination_clock = n.destination_clock; slots = put n.slots k None; tokens = n.tokens; version = version; entries = n.entries; retired = n.retired }

abbrev pub fill_one : {V : Type 0} → Kind V → ℕ → View V → ℕ → ℕ → Node V → Node V
fill_one kind i shown version k n = fill_by kind version k (met (shown.tokens k i) (n.slots k)) n

unfoldable pub fill : {V : Type 0} → Kind V → ℕ → View V → Node V → Node V
fill kind i shown n = each (fill_one kind i shown (raised n)) 16 n

-- 2. A slot for j with a source clock below the frame's is outdated and goes.
abbrev pub current : ℕ → Option Slot → Option Slot
current clock None = None
current clock (Some s) = cond (nat_lt s.source_clock clock) None (Some s)

unfoldable pub drop_slot : {V : Type 0} → ℕ → View V → Node V → Node V
drop_slot j shown n = with_slots (put n.slots j (current shown.source_clock (n.slots j))) n

-- 3. If i's tier is below j's, j holds something and i has no slot for j, one is made of the frame's source clock and i's destination clock, which then rises by 1.
abbrev pub add_slot : {V : Type 0} → ℕ → View V → Node V → Node V
add_slot j shown n = record { tier = n.tier; own = n.own; source_clock = n.source_clock; destination_clock = suc n.destination_clock; slots = put n.slots j (Some (record { source_clock = shown.source_clock; destination_clock = n.destination_clock })); tokens = n.tokens; version = n.version; entries = n.entries; retired = n.retired }

unfoldable pub make_slot : {V : Type 0} → ℕ → View V → Node V → Node V
make_slot j shown n = cond (nat_lt n.tier shown.tier && (shown.holds && is_none (n.slots j))) (add_slot j shown n) n

-- 4. Between servers, each entry of another number is taken that has a higher version, or is unknown while a place is free.
unfoldable pub entry_room : {V : Type 0} → ℕ → Node V → Bool
entry_room i n = nat_lt (sum (λ k. used (entry_of i n k)) 16) 4

abbrev pub later : {V : Type 0} → Bool → Option (Entry V) → Option (Entry V) → Option (Entry V)
later free None known = known
later free (Some e) None = cond free (Some e) None
later free (Some e) (Some known) = cond (nat_lt known.version e.version) (Some e) (Some known)

abbrev pub take_entry : {V : Type 0} → ℕ → View V → ℕ → Node V → Node V
take_entry i shown k n = cond (k == i) n (with_entries (put n.entries k (later (entry_room i n) (shown.entries k) (n.entries k))) n)

unfoldable pub take_entries : {V : Type 0} → ℕ → View V → Node V → Node V
take_entries i shown n = cond (n.tier == 0 && shown.tier == 0) (each (take_entry i shown) 16 n) n

-- 5. Dead tokens for j go: a token is dead if its destination clock is below that of the frame's slot for its source or, without such a slot, below the frame's.
abbrev pub deadline : {V : Type 0} → View V → Option Slot → ℕ
deadline shown None = shown.destination_clock
deadline shown (Some s) = s.destination_clock

abbrev pub dead : {V : Type 0} → View V → Token V → Bool
dead shown t = nat_lt t.destination_clock (deadline shown (shown.slots t.source))

abbrev pub alive : {V : Type 0} → ℕ → Option (Token V) → Option (Token V)
alive clock None = None
alive clock (Some t) = cond (nat_lt t.destination_clock clock) None (Some t)

unfoldable pub drop_dead : {V : Type 0} → ℕ → View V → Node V → Node V
drop_dead j shown n = with_tokens (λ k l. cond (l == j) (alive (deadline shown (shown.slots k)) (n.tokens k l)) (n.tokens k l)) n

-- 6. If the frame has a slot for i whose source clock equals i's, i has a free place for an own token and holds none for j,
--    the token to j is made with the slot's clocks and the whole own value, which becomes empty, and i's source clock rises by 1.
unfoldable pub own_room : {V : Type 0} → ℕ → Node V → Bool
own_room i n = nat_lt (sum (λ l. used (n.tokens i l)) 16) 4

abbrev pub offered : ℕ → Option Slot → Option Slot
offered clock None = None
offered clock (Some s) = cond (s.source_clock == clock) (Some s) None

abbrev pub hand_over : {V : Type 0} → Kind V → ℕ → ℕ → Option Slot → Node V → Node V
hand_over kind i j None n = n
hand_over kind i j (Some s) n = record { tier = n.tier; own = kind.empty; source_clock = suc n.source_clock; destination_clock = n.destination_clock; slots = n.slots; tokens = put_pair n.tokens i j (Some (record { source = i; destination = j; source_clock = s.source_clock; destination_clock = s.destination_clock; tally = n.own })); version = n.version; entries = n.entries; retired = n.retired }

unfoldable pub make_token : {V : Type 0} → Kind V → ℕ → ℕ → View V → Node V → Node V
make_token kind i j shown n = cond (own_room i n && is_none (n.tokens i j)) (hand_over kind i j (offered n.source_clock (shown.slots i)) n) n

-- 7. If i's tier is below j's, each token of the frame with source j and another destination than i is cached:
--    it replaces a cached token of the same pair with a lower destination clock; if the pair is not cached, it takes a free place, if any.
unfoldable pub cache_room : {V : Type 0} → ℕ → Node V → Bool
cache_room i n = nat_lt (sum (λ k. cond (k == i) 0 (sum (λ l. used (n.tokens k l)) 16)) 16) 4

abbrev pub newer : {V : Type 0} → Bool → Option (Token V) → Option (Token V) → Option (Token V)
newer free None cached = cached
newer free (Some t) None = cond free (Some t) None
newer free (Some t) (Some cached) = cond (nat_lt cached.destination_clock t.destination_clock) (Some t) (Some cached)

abbrev pub cache_one : {V : Type 0} → ℕ → ℕ → View V → ℕ → Node V → Node V
cache_one i j shown l n = cond (l == i) n (with_tokens (put_pair n.tokens j l (newer (cache_room i n) (shown.tokens j l) (n.tokens j l))) n)

unfoldable pub cache : {V : Type 0} → ℕ → ℕ → View V → Node V → Node V
cache i j shown n = cond (nat_lt n.tier shown.tier) (each (cache_one i j shown) 16 n) n

-- taking in: the seven steps in their order
unfoldable pub take_in : {V : Type 0} → Kind V → ℕ → ℕ → View V → Node V → Node V
take_in kind i j shown n = cache i j shown (make_token kind i j shown (drop_dead j shown (take_entries i shown (make_slot j shown (drop_slot j shown (fill kind i shown n))))))

-- a token is open if its source holds it and its destination has a slot for that source that it meets
abbrev pub meets_slot : {V : Type 0} → Token V → Option Slot → Bool
meets_slot t None = false
meets_slot t (Some s) = meets t s

abbrev pub opens : {V : Type 0} → Option (Token V) → Option Slot → Bool
opens None slot = false
opens (Some t) slot = meets_slot t slot

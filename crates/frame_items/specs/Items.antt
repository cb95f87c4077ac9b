-- The items of a frame: slots, tokens and entries.
use Rattle.std.specs.Prelude.{◌≡◌, ℕ, ◌+◌, ◌*◌, ◌^◌, ◌<◌, ◌≤◌, Bool, true, false, cond, not, ◌&&◌, ◌||◌, List, [], ◌∷◌, ◌++◌, length, drop, Some, None, Ok, Err, Option, Result, ◌==◌, nat_le, nat_lt, slice_index, slice_index_or}
use Rattle.std.specs.Result.{result_unwrap_or}
use Rattle.std.proofs.Math.Path.{refl}
use Rattle.std.proofs.Common.{sym, ap, ap₂, ◌∙◌, append-nil, arith}
use Rattle.std.proofs.Math.ListN.{length-drop}
use Rattle.std.proofs.lemmas.List.{take-append-drop, drop-drop, drop_all}
use Rattle.std.proofs.lemmas.Bool.{le-leb, lt-ltb, ne_eqb, leb-true, ltb-true, eqb-false, and_parts, and_from, not-true, not_from_false}
use Rattle.big_endian.specs.BigEndian.{Octets, four, four_bytes, four_of_bytes, bytes_of_four, octets_four, octets_cons, octets_append, octets_drop}
use Rattle.tally.specs.Kind.{Kind, Lawful}
use Rattle.tally.specs.declared.fault.Fault.{Fault}
use Rattle.protocol.specs.Limits.{nodes_max, clock_max}
use Rattle.protocol.specs.declared.records.SourceSlot.{SourceSlot}
use Rattle.protocol.specs.declared.records.Token.{Token}
use Rattle.protocol.specs.declared.records.Entry.{Entry}
use Rattle.protocol.specs.declared.refusal.Condition.{Condition}
use Rattle.protocol.specs.declared.refusal.Condition.TheVariants as condition
use Rattle.protocol.specs.declared.refusal.FrameFault.{FrameFault}
use Rattle.frame_items.specs.Format.{Format, Sound}

-- a node's number
abbrev pub Number : ℕ → Type 0
Number n = (1 ≤ n) × (n ≤ nodes_max)

-- the fault of a condition at a place, unless a test holds; then what is asked next
abbrev pub unless : Bool → Condition → ℕ → Option FrameFault → Option FrameFault
unless test failed at next = cond test next (Some (record { condition = failed; place = at }))

pub unless_none : (test : Bool) (failed : Condition) (at : ℕ) (next : Option FrameFault) → unless test failed at next ≡ None → (test ≡ true) × (next ≡ None)
unless_none true failed at next e = (refl, e)
unless_none false failed at next e = let z : ◌≡◌ {A = ℕ} 0 1 = cc in absurd (omega arith)

pub unless_passes : (test : Bool) (failed : Condition) (at : ℕ) (next : Option FrameFault) → test ≡ true → next ≡ None → unless test failed at next ≡ None
unless_passes test failed at next e f = ap (λ t. unless t failed at next) e ∙ f

-- a clock or a version is within the limit
abbrev pub within_limit : ℕ → Bool
within_limit clock = nat_le clock clock_max

-- the number of an item may stand after a rank
abbrev pub number_after : ℕ → ℕ → Bool
number_after before n = nat_lt before n && nat_le n nodes_max

abbrev pub number : ℕ → Bool
number n = nat_le 1 n && nat_le n nodes_max

-- a slot: its source, then its clocks
abbrev pub slot_bytes : SourceSlot → List ℕ
slot_bytes s = s.source ∷ (four_bytes s.slot.source_clock ++ four_bytes s.slot.destination_clock)

abbrev pub slot_shown : List ℕ → SourceSlot
slot_shown b = record { source = slice_index b 0; slot = record { source_clock = four b 1; destination_clock = four b 5 } }

abbrev pub slot_fault : ℕ → ℕ → ℕ → List ℕ → Option FrameFault
slot_fault sender before place b =
    unless (number_after before (slice_index b 0) && not (slice_index b 0 == sender)) condition.Numbers place
    (unless (within_limit (four b 1)) condition.ItemClock (place + 1) (unless (within_limit (four b 5)) condition.ItemClock (place + 5) None))

-- a slot in a frame of the sender
pub record FairSlot (sender : ℕ) (s : SourceSlot) : Type 0 where
  pub number : Number s.source
  pub another : s.source ≡ sender → ⊥
  pub source_clock : s.slot.source_clock ≤ clock_max
  pub destination_clock : s.slot.destination_clock ≤ clock_max

abbrev pub slots : ℕ → Format SourceSlot
slots sender = record { width = 9; bytes = slot_bytes; shows = slot_shown; rank = λ s. s.source; Fair = FairSlot sender; fault = slot_fault sender }

-- tokens rise by source and then destination
abbrev pub pair_rank : ℕ → ℕ → ℕ
pair_rank source destination = source * 256 + destination

abbrev pub pair_after : ℕ → ℕ → ℕ → Bool
pair_after before source destination = number source && (number destination && (not (source == destination) && nat_lt before (pair_rank source destination)))

-- the tally that bytes show, and its fault at a place
module _ {V : Type 0} (kind : Kind V) where
  abbrev pub tally_shown : List ℕ → V
  tally_shown b = result_unwrap_or (kind.read b) kind.empty

  abbrev pub fault_of : ℕ → Result V Fault → Option FrameFault
  fault_of place (Ok x) = None
  fault_of place (Err f) = Some (record { condition = condition.Tally f.number; place = place + f.place })

  abbrev pub tally_fault : ℕ → List ℕ → Option FrameFault
  tally_fault place b = fault_of place (kind.read b)

  tally_only_by : (place : ℕ) (b : List ℕ) → Lawful kind → length b ≡ kind.width → Octets b → (r : Result V Fault) → kind.read b ≡ r → fault_of place r ≡ None → kind.bytes (result_unwrap_or r kind.empty) ≡ b
  tally_only_by place b laws l o (Ok x) e f = laws.reads_only b l o x e
  tally_only_by place b laws l o (Err x) e f = let z : ◌≡◌ {A = ℕ} 0 1 = cc in absurd (omega arith)

  pub tally_only : (place : ℕ) (b : List ℕ) → Lawful kind → length b ≡ kind.width → Octets b → tally_fault place b ≡ None → kind.bytes (tally_shown b) ≡ b
  tally_only place b laws l o f = tally_only_by place b laws l o (kind.read b) refl f

  -- a token: its source and destination, its clocks, its tally
  abbrev pub token_bytes : Token V → List ℕ
  token_bytes t = t.source ∷ t.destination ∷ (four_bytes t.source_clock ++ (four_bytes t.destination_clock ++ kind.bytes t.tally))

  abbrev pub token_shown : List ℕ → Token V
  token_shown b = record { source = slice_index b 0; destination = slice_index b 1; source_clock = four b 2; destination_clock = four b 6; tally = tally_shown (drop 10 b) }

  abbrev pub token_fault : ℕ → ℕ → List ℕ → Option FrameFault
  token_fault before place b =
      unless (pair_after before (slice_index b 0) (slice_index b 1)) condition.Numbers place
      (unless (within_limit (four b 2)) condition.ItemClock (place + 2) (unless (within_limit (four b 6)) condition.ItemClock (place + 6) (tally_fault (place + 10) (drop 10 b))))

  pub record FairToken (t : Token V) : Type 0 where
    pub source_number : Number t.source
    pub destination_number : Number t.destination
    pub another : t.source ≡ t.destination → ⊥
    pub source_clock : t.source_clock ≤ clock_max
    pub destination_clock : t.destination_clock ≤ clock_max

  abbrev pub tokens : Format (Token V)
  tokens = record { width = 10 + kind.width; bytes = token_bytes; shows = token_shown; rank = λ t. pair_rank t.source t.destination; Fair = FairToken; fault = token_fault }

  -- an entry: its number, its version, its tally
  abbrev pub entry_bytes : Entry V → List ℕ
  entry_bytes e = e.number ∷ (four_bytes e.version ++ kind.bytes e.tally)

  abbrev pub entry_shown : List ℕ → Entry V
  entry_shown b = record { number = slice_index b 0; version = four b 1; tally = tally_shown (drop 5 b) }

  abbrev pub entry_fault : ℕ → ℕ → List ℕ → Option FrameFault
  entry_fault before place b = unless (number_after before (slice_index b 0)) condition.Numbers place (unless (within_limit (four b 1)) condition.ItemClock (place + 1) (tally_fault (place + 5) (drop 5 b)))

  pub record FairEntry (e : Entry V) : Type 0 where
    pub fair_number : Number e.number
    pub fair_version : e.version ≤ clock_max

  abbrev pub entries : Format (Entry V)
  entries = record { width = 5 + kind.width; bytes = entry_bytes; shows = entry_shown; rank = λ e. e.number; Fair = FairEntry; fault = entry_fault }

-- an entry of a number is among them
abbrev pub has_entry : {V : Type 0} → ℕ → List (Entry V) → Bool
has_entry n [] = false
has_entry n (e ∷ es) = e.number == n || has_entry n es

-- bytes taken apart
first_byte : (b : List ℕ) → 0 < length b → slice_index b 0 ∷ drop 1 b ≡ b
first_byte [] h = absurd (omega arith)
first_byte (x ∷ b) h = refl

first_two : (b : List ℕ) → 1 < length b → slice_index b 0 ∷ slice_index b 1 ∷ drop 2 b ≡ b
first_two [] h = absurd (omega arith)
first_two (x ∷ []) h = absurd (omega arith)
first_two (x ∷ y ∷ b) h = refl

pub four_front : (b : List ℕ) (at : ℕ) (rest : List ℕ) → at + 4 ≤ length b → Octets b → rest ≡ drop (at + 4) b → four_bytes (four b at) ++ rest ≡ drop at b
four_front b at rest h o e = ap₂ ◌++◌ (bytes_of_four b at h o) (e ∙ sym (drop-drop 4 at b)) ∙ take-append-drop 4 (drop at b)

pub clock_fits : (c : ℕ) → c ≤ clock_max → c < 2 ^ 32
clock_fits c h = omega arith

pub number_fits : (n : ℕ) → Number n → n < 256
number_fits n h = omega arith

pub number_true : (n : ℕ) → Number n → number n ≡ true
number_true n h = and_from (nat_le 1 n) (nat_le n nodes_max) (le-leb 1 n h.0) (le-leb n nodes_max h.1)

pub true_number : (n : ℕ) → number n ≡ true → Number n
true_number n e = let p = and_parts (nat_le 1 n) (nat_le n nodes_max) e in (leb-true 1 n p.0, leb-true n nodes_max p.1)

slot_same : (x y : SourceSlot) → x.source ≡ y.source → x.slot.source_clock ≡ y.slot.source_clock → x.slot.destination_clock ≡ y.slot.destination_clock → x ≡ y
slot_same x y p q r = λ i. record { source = p i; slot = record { source_clock = q i; destination_clock = r i } }

pub slots_sound : (sender : ℕ) → Sound (slots sender)
slots_sound sender = record {
  long = λ x. refl;
  octets = λ x f. octets_cons x.source (four_bytes x.slot.source_clock ++ four_bytes x.slot.destination_clock) (number_fits x.source f.number) (octets_append (four_bytes x.slot.source_clock) (four_bytes x.slot.destination_clock) (octets_four x.slot.source_clock) (octets_four x.slot.destination_clock));
  back = λ x f.
      slot_same _ x refl (four_of_bytes x.slot.source_clock (four_bytes x.slot.destination_clock) (clock_fits _ f.source_clock)) (four_of_bytes x.slot.destination_clock [] (clock_fits _ f.destination_clock));
  passes = λ x f before place h.
      unless_passes _ condition.Numbers place _
      (and_from _ _ (and_from _ _ (lt-ltb before x.source h) (le-leb x.source nodes_max f.number.1)) (not_from_false _ (ne_eqb x.source sender f.another)))
      (unless_passes _ condition.ItemClock (place + 1) _ (ap within_limit (four_of_bytes x.slot.source_clock (four_bytes x.slot.destination_clock) (clock_fits _ f.source_clock)) ∙ le-leb _ _ f.source_clock)
      (unless_passes _ condition.ItemClock (place + 5) None (ap within_limit (four_of_bytes x.slot.destination_clock [] (clock_fits _ f.destination_clock)) ∙ le-leb _ _ f.destination_clock) refl));
  only = λ b l o before place e.
      let n = slice_index_or b 0 0 in
      let p = unless_none (number_after before n && not (n == sender)) condition.Numbers place _ e in
      let q = unless_none (within_limit (four b 1)) condition.ItemClock (place + 1) _ p.1 in
      let r = unless_none (within_limit (four b 5)) condition.ItemClock (place + 5) None q.1 in
      let t = and_parts (number_after before n) (not (n == sender)) p.0 in
      let u = and_parts (nat_lt before n) (nat_le n nodes_max) t.0 in
      let last : drop 9 b ≡ [] = drop_all 9 b (omega arith) in
      let five : four_bytes (four b 5) ≡ drop 5 b = sym (append-nil _) ∙ four_front b 5 [] (omega arith) o (sym last) in
      let one : four_bytes (four b 1) ++ four_bytes (four b 5) ≡ drop 1 b = four_front b 1 _ (omega arith) o five in
      (ap (λ z. n ∷ z) one ∙ first_byte b (omega arith), record { number = (omega (arith, ltb-true before n u.0), leb-true n nodes_max u.1); another = eqb-false n sender (not-true _ t.1); source_clock = leb-true _ _ q.0; destination_clock = leb-true _ _ r.0 }, ltb-true before n u.0);
}

module _ {V : Type 0} (kind : Kind V) (laws : Lawful kind) where
  token_same : (x y : Token V) → x.source ≡ y.source → x.destination ≡ y.destination → x.source_clock ≡ y.source_clock → x.destination_clock ≡ y.destination_clock → x.tally ≡ y.tally → x ≡ y
  token_same x y p q r t u = λ i. record { source = p i; destination = q i; source_clock = r i; destination_clock = t i; tally = u i }

  entry_same : (x y : Entry V) → x.number ≡ y.number → x.version ≡ y.version → x.tally ≡ y.tally → x ≡ y
  entry_same x y p q r = λ i. record { number = p i; version = q i; tally = r i }

  tally_back : (x : V) → tally_shown kind (kind.bytes x) ≡ x
  tally_back x = ap (λ r. result_unwrap_or r kind.empty) (laws.reads_back x)

  tally_passes : (place : ℕ) (x : V) → tally_fault kind place (kind.bytes x) ≡ None
  tally_passes place x = ap (fault_of kind place) (laws.reads_back x)

  token_clocks : (t : Token V) → List ℕ
  token_clocks t = four_bytes t.source_clock ++ (four_bytes t.destination_clock ++ kind.bytes t.tally)

  pub tokens_sound : Sound (tokens kind)
  unfolding token_clocks
  tokens_sound = record {
    long = λ t. omega (arith, laws.written t.tally);
    octets = λ t f.
        octets_cons t.source (t.destination ∷ token_clocks t) (number_fits _ f.source_number)
        (octets_cons t.destination (token_clocks t) (number_fits _ f.destination_number)
        (octets_append (four_bytes t.source_clock) (four_bytes t.destination_clock ++ kind.bytes t.tally) (octets_four t.source_clock)
        (octets_append (four_bytes t.destination_clock) (kind.bytes t.tally) (octets_four t.destination_clock) (laws.octets t.tally))));
    back = λ t f.
        token_same _ t refl refl (four_of_bytes t.source_clock (four_bytes t.destination_clock ++ kind.bytes t.tally) (clock_fits _ f.source_clock))
        (four_of_bytes t.destination_clock (kind.bytes t.tally) (clock_fits _ f.destination_clock)) (tally_back t.tally);
    passes = λ t f before place h.
        unless_passes _ condition.Numbers place _
        (and_from _ _ (number_true _ f.source_number) (and_from _ _ (number_true _ f.destination_number) (and_from _ _ (not_from_false _ (ne_eqb t.source t.destination f.another)) (lt-ltb before _ h))))
        (unless_passes _ condition.ItemClock (place + 2) _ (ap within_limit (four_of_bytes t.source_clock (four_bytes t.destination_clock ++ kind.bytes t.tally) (clock_fits _ f.source_clock)) ∙ le-leb _ _ f.source_clock)
        (unless_passes _ condition.ItemClock (place + 6) _ (ap within_limit (four_of_bytes t.destination_clock (kind.bytes t.tally) (clock_fits _ f.destination_clock)) ∙ le-leb _ _ f.destination_clock) (tally_passes (place + 10) t.tally)));
    only = λ b l o before place e.
        let n = slice_index_or b 0 0 in
        let m = slice_index_or b 1 0 in
        let p = unless_none (pair_after before n m) condition.Numbers place _ e in
        let q = unless_none (within_limit (four b 2)) condition.ItemClock (place + 2) _ p.1 in
        let r = unless_none (within_limit (four b 6)) condition.ItemClock (place + 6) _ q.1 in
        let s = and_parts (number n) _ p.0 in
        let t = and_parts (number m) _ s.1 in
        let u = and_parts (not (n == m)) (nat_lt before (pair_rank n m)) t.1 in
        let ten = tally_only kind (place + 10) (drop 10 b) laws (omega (arith, length-drop 10 b)) (octets_drop 10 b o) r.1 in
        let six : four_bytes (four b 6) ++ kind.bytes (tally_shown kind (drop 10 b)) ≡ drop 6 b = four_front b 6 _ (omega arith) o ten in
        let two : four_bytes (four b 2) ++ (four_bytes (four b 6) ++ kind.bytes (tally_shown kind (drop 10 b))) ≡ drop 2 b = four_front b 2 _ (omega arith) o six in
        (ap (λ z. n ∷ m ∷ z) two ∙ first_two b (omega arith), record { source_number = true_number n s.0; destination_number = true_number m t.0; another = eqb-false n m (not-true _ u.0); source_clock = leb-true _ _ q.0; destination_clock = leb-true _ _ r.0 }, ltb-true before _ u.1);
  }

  pub entries_sound : Sound (entries kind)
  entries_sound = record {
    long = λ x. omega (arith, laws.written x.tally);
    octets = λ x f.
        octets_cons x.number (four_bytes x.version ++ kind.bytes x.tally) (number_fits _ f.fair_number) (octets_append (four_bytes x.version) (kind.bytes x.tally) (octets_four x.version) (laws.octets x.tally));
    back = λ x f. entry_same _ x refl (four_of_bytes x.version (kind.bytes x.tally) (clock_fits _ f.fair_version)) (tally_back x.tally);
    passes = λ x f before place h.
        unless_passes _ condition.Numbers place _ (and_from _ _ (lt-ltb before x.number h) (le-leb x.number nodes_max f.fair_number.1))
        (unless_passes _ condition.ItemClock (place + 1) _ (ap within_limit (four_of_bytes x.version (kind.bytes x.tally) (clock_fits _ f.fair_version)) ∙ le-leb _ _ f.fair_version) (tally_passes (place + 5) x.tally));
    only = λ b l o before place e.
        let n = slice_index_or b 0 0 in
        let p = unless_none (number_after before n) condition.Numbers place _ e in
        let q = unless_none (within_limit (four b 1)) condition.ItemClock (place + 1) _ p.1 in
        let u = and_parts (nat_lt before n) (nat_le n nodes_max) p.0 in
        let five = tally_only kind (place + 5) (drop 5 b) laws (omega (arith, length-drop 5 b)) (octets_drop 5 b o) q.1 in
        let one : four_bytes (four b 1) ++ kind.bytes (tally_shown kind (drop 5 b)) ≡ drop 1 b = four_front b 1 _ (omega arith) o five in
        (ap (λ z. n ∷ z) one ∙ first_byte b (omega arith), record { fair_number = (omega (arith, ltb-true before n u.0), leb-true n nodes_max u.1); fair_version = leb-true _ _ q.0 }, ltb-true before n u.0);
  }

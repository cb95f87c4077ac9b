-- Bytes are accepted exactly when a lawful frame is written so.
use Rattle.std.proofs.Common.{◌≡◌, ℕ, ◌+◌, ◌*◌, ◌/◌, ◌%◌, ◌<◌, ◌≤◌, Bool, true, false, cond, not, ◌&&◌, ◌||◌, eqb, leb, List, [], ◌∷◌, ◌++◌, length, get_or, take, drop, Some, None, Ok, Option, sym, refl, ap, ◌∙◌, subst, ap₂, ⊎_elim, append-nil, mul-le-mul, arith, lit<, length-append, length-drop}
use Rattle.std.proofs.lemmas.List.{drop_at, take_all, drop-drop, drop_more, take-append-drop}
use Rattle.std.proofs.lemmas.Bool.{le-leb, eq-eqb, ne_eqb, leb-true, eqb-true, eqb-false, and_parts, and_from, not-true, not_from_false, cond-true, cond-false, cases_eq, or_cases, or_left, or_right}
use Rattle.big_endian.specs.BigEndian.{Octets, four, four_of_bytes, octets_cons, octets_append, octets_nil, octets_drop}
use Rattle.tally.specs.Kind.{Kind, Lawful}
use Rattle.protocol.specs.Limits.{tier_max, clock_max, frame_bytes_min, frame_bytes_max}
use Rattle.protocol.specs.declared.refusal.Condition.TheVariants as condition
use Rattle.protocol.specs.declared.refusal.FrameFault.{FrameFault}
use Rattle.frame_items.specs.Format.{or_else, parts_none, Row, row_bytes, shown_row, row_fault, length_row, octets_row, row_back, row_passes, row_only, length_shown}
use Rattle.frame_items.specs.Items.{Number, number, unless_none, unless_passes, within_limit, has_entry, slots, tokens, entries, slots_sound, tokens_sound, entries_sound, number_true, true_number, number_fits, clock_fits, four_front}
use Rattle.frame.specs.Frames.{Frame, LawfulFrame, Exact, entries_allowed, header_bytes, frame_bytes, tokens_place, entries_place, counted_length, slots_shown, tokens_shown, entries_shown, shown, opening_fault, parties_fault, state_fault, counts_fault, header_fault, own_entry_fault, lists_fault, frame_fault, verdict, judge}

none_then : (first later : Option FrameFault) → first ≡ None → later ≡ None → or_else first later ≡ None
none_then first later e f = ap (λ o. or_else o later) e ∙ f

verdict_ok : {V : Type 0} (kind : Kind V) (o : Option FrameFault) (g f : Frame V) → verdict kind o g ≡ Ok f → (o ≡ None) × (g ≡ f)
verdict_ok kind None g f e = (refl, (cc))
verdict_ok kind (Some x) g f e = let z : ◌≡◌ {A = ℕ} 0 1 = cc in absurd (omega arith)

entries_at_most : (tier count : ℕ) → entries_allowed tier count ≡ true → count ≤ 4
entries_at_most tier count e =
    ⊎_elim (λ (t : tier ≡ 0). leb-true count 4 (and_parts (leb 1 count) (leb count 4) (sym (cond-true (eqb tier 0) _ _ (eq-eqb tier 0 t)) ∙ e)).1)
    (λ (t : tier ≡ 0 → ⊥). let z = eqb-true count 0 (sym (cond-false (eqb tier 0) _ _ (ne_eqb tier 0 t)) ∙ e) in omega arith)
    (cases_eq tier 0)

holds_back : (h : Bool) → eqb (cond h 1 0) 1 ≡ h
holds_back true = refl
holds_back false = refl

holds_byte : (h : Bool) → leb (cond h 1 0) 1 ≡ true
holds_byte true = refl
holds_byte false = refl

pub frame_same : {V : Type 0} (x y : Frame V) → x.sender ≡ y.sender → x.tier ≡ y.tier → x.addressee ≡ y.addressee → x.holds ≡ y.holds → x.source_clock ≡ y.source_clock → x.destination_clock ≡ y.destination_clock → x.slot_list ≡ y.slot_list → x.token_list ≡ y.token_list → x.entry_list ≡ y.entry_list → x ≡ y
frame_same x y a b c d e f g h j = λ i. record { sender = a i; tier = b i; addressee = c i; holds = d i; source_clock = e i; destination_clock = f i; slot_list = g i; token_list = h i; entry_list = j i }

abbrev Each : List ℕ → Type 0
Each [] = Unit {0}
Each (x ∷ xs) = (x < 256) × Each xs

each_octets : (b : List ℕ) → Each b → Octets b
each_octets [] e = octets_nil
each_octets (x ∷ b) e = octets_cons x b e.0 (each_octets b e.1)

-- the length of any frame's writing
pub length_of_frame : {V : Type 0} (kind : Kind V) → Lawful kind → (f : Frame V) → length (frame_bytes kind f) ≡ 17 + length f.slot_list * 9 + length f.token_list * (10 + kind.width) + length f.entry_list * (5 + kind.width)
unfolding frame_bytes
length_of_frame kind laws f =
    let s = row_bytes (slots f.sender) f.slot_list in
    let t = row_bytes (tokens kind) f.token_list in
    let e = row_bytes (entries kind) f.entry_list in
    omega (arith, length-append s (t ++ e), length-append t e, length_row (slots f.sender) (slots_sound f.sender) f.slot_list, length_row (tokens kind) (tokens_sound kind laws) f.token_list, length_row (entries kind) (entries_sound kind laws) f.entry_list)

-- a written frame
module _ {V : Type 0} (kind : Kind V) (laws : Lawful kind) (f : Frame V) (ok : LawfulFrame kind f) where
  all_slots : List ℕ
  all_slots = row_bytes (slots f.sender) f.slot_list

  all_tokens : List ℕ
  all_tokens = row_bytes (tokens kind) f.token_list

  all_entries : List ℕ
  all_entries = row_bytes (entries kind) f.entry_list

  at_tokens : drop (tokens_place (frame_bytes kind f)) (frame_bytes kind f) ≡ all_tokens ++ all_entries
  unfolding frame_bytes all_slots all_tokens all_entries
  at_tokens =
      let n = length f.slot_list * 9 in
      sym (drop-drop n 17 (frame_bytes kind f)) ∙ drop_at all_slots (all_tokens ++ all_entries) n (length_row (slots f.sender) (slots_sound f.sender) f.slot_list)

  at_entries : drop (entries_place kind (frame_bytes kind f)) (frame_bytes kind f) ≡ all_entries
  unfolding frame_bytes all_slots all_tokens all_entries
  at_entries =
      let n = length f.token_list * (10 + kind.width) in
      sym (drop-drop n (tokens_place (frame_bytes kind f)) (frame_bytes kind f)) ∙ ap (drop n) at_tokens ∙ drop_at all_tokens all_entries n (length_row (tokens kind) (tokens_sound kind laws) f.token_list)

  length_frame : length (frame_bytes kind f) ≡ counted_length kind (frame_bytes kind f)
  unfolding frame_bytes
  length_frame = length_of_frame kind laws f

  long_enough : (frame_bytes_min ≤ length (frame_bytes kind f)) × (length (frame_bytes kind f) ≤ frame_bytes_max)
  unfolding frame_bytes
  long_enough =
      let tw : 10 + kind.width ≤ 142 = omega (arith, laws.width_max) in
      let ew : 5 + kind.width ≤ 137 = omega (arith, laws.width_max) in
      let t : length f.token_list * (10 + kind.width) ≤ 8 * 142 = mul-le-mul ok.few_tokens tw in
      let few = entries_at_most f.tier (length f.entry_list) ok.few_entries in
      let e : length f.entry_list * (5 + kind.width) ≤ 4 * 137 = mul-le-mul few ew in
      (omega (arith, length_frame), omega (arith, length_frame, t, e, ok.few_slots))

  passes_header : header_fault kind (frame_bytes kind f) ≡ None
  unfolding header_fault frame_bytes
  passes_header =
      none_then _ _
      (unless_passes _ condition.Length 0 _ (and_from _ _ (le-leb _ _ long_enough.0) (le-leb _ _ long_enough.1)) (unless_passes _ condition.Edition 0 _ refl (unless_passes _ condition.Kind 1 None (eq-eqb kind.code kind.code refl) refl)))
      (none_then _ _
      (unless_passes _ condition.Parties 2 _ (number_true _ ok.sender_number)
      (unless_passes _ condition.Parties 4 _ (and_from _ _ (number_true _ ok.addressee_number) (not_from_false _ (ne_eqb _ _ ok.another))) (unless_passes _ condition.Parties 3 None (le-leb _ _ ok.tier_known) refl)))
      (none_then _ _
      (unless_passes _ condition.Holding 5 _ (holds_byte f.holds)
      (unless_passes _ condition.Clock 6 _ (ap within_limit (four_of_bytes f.source_clock [] (clock_fits _ ok.source_clock_within)) ∙ le-leb _ _ ok.source_clock_within)
      (unless_passes _ condition.Clock 10 None (ap within_limit (four_of_bytes f.destination_clock [] (clock_fits _ ok.destination_clock_within)) ∙ le-leb _ _ ok.destination_clock_within) refl)))
      (unless_passes _ condition.Counts 14 _ (le-leb _ _ ok.few_slots)
      (unless_passes _ condition.Counts 15 _ (le-leb _ _ ok.few_tokens)
      (unless_passes _ condition.Counts 16 _ ok.few_entries (unless_passes _ condition.CountedLength 14 None (eq-eqb _ _ length_frame) refl))))))

  slots_back : slots_shown (frame_bytes kind f) ≡ f.slot_list
  unfolding frame_bytes
  slots_back = row_back (slots f.sender) (slots_sound f.sender) f.slot_list 0 _ ok.slot_row

  tokens_back : tokens_shown kind (frame_bytes kind f) ≡ f.token_list
  unfolding frame_bytes all_tokens all_entries
  tokens_back = ap (shown_row (tokens kind) (length f.token_list)) at_tokens ∙ row_back (tokens kind) (tokens_sound kind laws) f.token_list 0 all_entries ok.token_row

  entries_back : entries_shown kind (frame_bytes kind f) ≡ f.entry_list
  unfolding frame_bytes all_entries
  entries_back =
      ap (shown_row (entries kind) (length f.entry_list)) (at_entries ∙ sym (append-nil all_entries)) ∙ row_back (entries kind) (entries_sound kind laws) f.entry_list 0 [] ok.entry_row

  passes_lists : lists_fault kind (frame_bytes kind f) ≡ None
  unfolding lists_fault frame_bytes all_slots all_tokens all_entries
  passes_lists =
      let b = frame_bytes kind f in
      none_then _ _ (row_passes (slots f.sender) (slots_sound f.sender) f.slot_list 0 17 (all_tokens ++ all_entries) ok.slot_row)
      (none_then _ _ (ap (row_fault (tokens kind) (length f.token_list) 0 (tokens_place b)) at_tokens ∙ row_passes (tokens kind) (tokens_sound kind laws) f.token_list 0 (tokens_place b) all_entries ok.token_row)
      (none_then _ _
      (ap (row_fault (entries kind) (length f.entry_list) 0 (entries_place kind b)) (at_entries ∙ sym (append-nil all_entries)) ∙ row_passes (entries kind) (entries_sound kind laws) f.entry_list 0 (entries_place kind b) [] ok.entry_row)
      (unless_passes _ condition.OwnEntry 16 None own refl)))
    where
      own : (not (eqb f.tier 0) || has_entry f.sender (entries_shown kind (frame_bytes kind f))) ≡ true
      own =
          ⊎_elim (λ (t : f.tier ≡ 0). or_right _ _ (ap (has_entry f.sender) entries_back ∙ ok.own_entry t)) (λ (t : f.tier ≡ 0 → ⊥). or_left _ _ (not_from_false _ (ne_eqb f.tier 0 t))) (cases_eq f.tier 0)

  pub shown_back : shown kind (frame_bytes kind f) ≡ f
  unfolding shown frame_bytes
  shown_back =
      frame_same _ f refl refl refl (holds_back f.holds) (four_of_bytes f.source_clock [] (clock_fits _ ok.source_clock_within)) (four_of_bytes f.destination_clock [] (clock_fits _ ok.destination_clock_within)) slots_back tokens_back entries_back

  pub judged_back : judge kind (frame_bytes kind f) ≡ Ok f
  judged_back = ap₂ (verdict kind) (none_then _ _ passes_header passes_lists) shown_back

  header_each : Each (header_bytes kind f)
  header_each =
      let few = entries_at_most f.tier (length f.entry_list) ok.few_entries in
      let holds = leb-true _ _ (holds_byte f.holds) in
      let s = f.source_clock in
      let d = f.destination_clock in
      let byte : (n : ℕ) → n % 256 < 256 = λ n. omega arith in (
        lit< tt,
        (
          laws.code_byte,
          (
            number_fits _ ok.sender_number,
            (
              omega (arith, ok.tier_known),
              (
                number_fits _ ok.addressee_number,
                (
                  omega arith,
                  (
                    byte (s / 16777216),
                    (
                      byte (s / 65536),
                      (
                        byte (s / 256),
                        (
                          byte s,
                          (byte (d / 16777216), (byte (d / 65536), (byte (d / 256), (byte d, (omega (arith, ok.few_slots), (omega (arith, ok.few_tokens), (omega arith, tt))))))),
                        ),
                      ),
                    ),
                  ),
                ),
              ),
            ),
          ),
        ),
      )

  pub octets_frame : Octets (frame_bytes kind f)
  unfolding frame_bytes all_slots all_tokens all_entries
  octets_frame =
      octets_append (header_bytes kind f) (all_slots ++ (all_tokens ++ all_entries)) (each_octets (header_bytes kind f) header_each)
      (octets_append all_slots (all_tokens ++ all_entries) (octets_row (slots f.sender) (slots_sound f.sender) f.slot_list 0 ok.slot_row)
      (octets_append all_tokens all_entries (octets_row (tokens kind) (tokens_sound kind laws) f.token_list 0 ok.token_row) (octets_row (entries kind) (entries_sound kind laws) f.entry_list 0 ok.entry_row)))

-- accepted bytes
one_byte : (b : List ℕ) (k v : ℕ) (rest : List ℕ) → k < length b → v ≡ get_or b k 0 → rest ≡ drop (k + 1) b → v ∷ rest ≡ drop k b
one_byte b k v rest h e f = ap₂ ◌∷◌ e f ∙ sym (drop_more b k 0 h)

holding : (n : ℕ) → n ≤ 1 → cond (eqb n 1) 1 0 ≡ n
holding n h = ⊎_elim (λ (e : n ≡ 1). cond-true (eqb n 1) 1 0 (eq-eqb n 1 e) ∙ sym e) (λ (e : n ≡ 1 → ⊥). cond-false (eqb n 1) 1 0 (ne_eqb n 1 e) ∙ omega arith) (cases_eq n 1)

-- what the conditions on the header say
pub record FineHeader {V : Type 0} (kind : Kind V) (b : List ℕ) : Type 0 where
  pub long : (17 ≤ length b) × (length b ≤ 1836)
  pub edition : get_or b 0 0 ≡ 1
  pub our_kind : get_or b 1 0 ≡ kind.code
  pub sender : Number (get_or b 2 0)
  pub addressee : Number (get_or b 4 0)
  pub another : get_or b 4 0 ≡ get_or b 2 0 → ⊥
  pub tier : get_or b 3 0 ≤ tier_max
  pub holds : get_or b 5 0 ≤ 1
  pub source_clock : four b 6 ≤ clock_max
  pub destination_clock : four b 10 ≤ clock_max
  pub few_slots : get_or b 14 0 ≤ 15
  pub few_tokens : get_or b 15 0 ≤ 8
  pub few_entries : entries_allowed (get_or b 3 0) (get_or b 16 0) ≡ true
  pub counted : length b ≡ counted_length kind b

pub fine_header : {V : Type 0} (kind : Kind V) (b : List ℕ) → header_fault kind b ≡ None → FineHeader kind b
unfolding header_fault
fine_header kind b fine =
    let h1 = parts_none (opening_fault kind b) _ fine in
    let h2 = parts_none (parties_fault b) _ h1.1 in
    let h3 = parts_none (state_fault b) (counts_fault kind b) h2.1 in
    let o1 = unless_none (leb frame_bytes_min (length b) && leb (length b) frame_bytes_max) condition.Length 0 _ h1.0 in
    let o2 = unless_none (eqb (get_or b 0 0) 1) condition.Edition 0 _ o1.1 in
    let o3 = unless_none (eqb (get_or b 1 0) kind.code) condition.Kind 1 None o2.1 in
    let l = and_parts (leb frame_bytes_min (length b)) (leb (length b) frame_bytes_max) o1.0 in
    let p1 = unless_none (number (get_or b 2 0)) condition.Parties 2 _ h2.0 in
    let p2 = unless_none (number (get_or b 4 0) && not (eqb (get_or b 4 0) (get_or b 2 0))) condition.Parties 4 _ p1.1 in
    let p3 = unless_none (leb (get_or b 3 0) tier_max) condition.Parties 3 None p2.1 in
    let a = and_parts (number (get_or b 4 0)) (not (eqb (get_or b 4 0) (get_or b 2 0))) p2.0 in
    let s1 = unless_none (leb (get_or b 5 0) 1) condition.Holding 5 _ h3.0 in
    let s2 = unless_none (within_limit (four b 6)) condition.Clock 6 _ s1.1 in
    let s3 = unless_none (within_limit (four b 10)) condition.Clock 10 None s2.1 in
    let c1 = unless_none (leb (get_or b 14 0) 15) condition.Counts 14 _ h3.1 in
    let c2 = unless_none (leb (get_or b 15 0) 8) condition.Counts 15 _ c1.1 in
    let c3 = unless_none (entries_allowed (get_or b 3 0) (get_or b 16 0)) condition.Counts 16 _ c2.1 in
    let c4 = unless_none (eqb (length b) (counted_length kind b)) condition.CountedLength 14 None c3.1 in
    record {
      long = (leb-true _ _ l.0, leb-true _ _ l.1);
      edition = eqb-true _ _ o2.0;
      our_kind = eqb-true _ _ o3.0;
      sender = true_number _ p1.0;
      addressee = true_number _ a.0;
      another = eqb-false _ _ (not-true _ a.1);
      tier = leb-true _ _ p3.0;
      holds = leb-true _ _ s1.0;
      source_clock = leb-true _ _ s2.0;
      destination_clock = leb-true _ _ s3.0;
      few_slots = leb-true _ _ c1.0;
      few_tokens = leb-true _ _ c2.0;
      few_entries = c3.0;
      counted = eqb-true _ _ c4.0;
    }

-- what the conditions on the lists say
record FineLists {V : Type 0} (kind : Kind V) (b : List ℕ) : Type 0 where
  slot_row : row_fault (slots (get_or b 2 0)) (get_or b 14 0) 0 17 (drop 17 b) ≡ None
  token_row : row_fault (tokens kind) (get_or b 15 0) 0 (tokens_place b) (drop (tokens_place b) b) ≡ None
  entry_row : row_fault (entries kind) (get_or b 16 0) 0 (entries_place kind b) (drop (entries_place kind b) b) ≡ None
  own_entry : (not (eqb (get_or b 3 0) 0) || has_entry (get_or b 2 0) (entries_shown kind b)) ≡ true

fine_lists : {V : Type 0} (kind : Kind V) (b : List ℕ) → lists_fault kind b ≡ None → FineLists kind b
unfolding lists_fault
fine_lists kind b fine =
    let r1 = parts_none (row_fault (slots (get_or b 2 0)) (get_or b 14 0) 0 17 (drop 17 b)) _ fine in
    let r2 = parts_none (row_fault (tokens kind) (get_or b 15 0) 0 (tokens_place b) (drop (tokens_place b) b)) _ r1.1 in
    let r3 = parts_none (row_fault (entries kind) (get_or b 16 0) 0 (entries_place kind b) (drop (entries_place kind b) b)) (own_entry_fault kind b) r2.1 in
    let r4 = unless_none (not (eqb (get_or b 3 0) 0) || has_entry (get_or b 2 0) (entries_shown kind b)) condition.OwnEntry 16 None r3.1 in
    record { slot_row = r1.0; token_row = r2.0; entry_row = r3.0; own_entry = r4.0 }

module _ {V : Type 0} (kind : Kind V) (laws : Lawful kind) (b : List ℕ) (octets : Octets b) (fine : frame_fault kind b ≡ None) where
  head : FineHeader kind b
  head = fine_header kind b (parts_none (header_fault kind b) (lists_fault kind b) fine).0

  lists : FineLists kind b
  lists = fine_lists kind b (parts_none (header_fault kind b) (lists_fault kind b) fine).1

  header_again : header_bytes kind (shown kind b) ++ drop 17 b ≡ b
  unfolding shown
  header_again =
      let c = head in
      let long = c.long.0 in
      let n = length_shown (slots (get_or b 2 0)) (get_or b 14 0) (drop 17 b) in
      let m = length_shown (tokens kind) (get_or b 15 0) (drop (tokens_place b) b) in
      let k = length_shown (entries kind) (get_or b 16 0) (drop (entries_place kind b) b) in
      let x16 = one_byte b 16 _ (drop 17 b) (omega arith) k refl in
      let x15 = one_byte b 15 _ _ (omega arith) m x16 in
      let x14 = one_byte b 14 _ _ (omega arith) n x15 in
      let x10 = four_front b 10 _ (omega arith) octets x14 in
      let x6 = four_front b 6 _ (omega arith) octets x10 in
      let x5 = one_byte b 5 _ _ (omega arith) (holding (get_or b 5 0) c.holds) x6 in
      let x4 = one_byte b 4 (get_or b 4 0) _ (omega arith) refl x5 in
      let x3 = one_byte b 3 (get_or b 3 0) _ (omega arith) refl x4 in
      let x2 = one_byte b 2 (get_or b 2 0) _ (omega arith) refl x3 in
      let x1 = one_byte b 1 kind.code _ (omega arith) (sym c.our_kind) x2 in
      one_byte b 0 1 _ (omega arith) (sym c.edition) x1

  -- the rows, and that they fill the bytes
  slot_part : (row_bytes (slots (get_or b 2 0)) (slots_shown b) ≡ take (get_or b 14 0 * 9) (drop 17 b)) × Row (slots (get_or b 2 0)) 0 (slots_shown b)
  slot_part =
      let c = head in row_only (slots (get_or b 2 0)) (slots_sound (get_or b 2 0)) (get_or b 14 0) (drop 17 b) 0 17 (omega (arith, length-drop 17 b, c.counted)) (octets_drop 17 b octets) lists.slot_row

  token_part : (row_bytes (tokens kind) (tokens_shown kind b) ≡ take (get_or b 15 0 * (10 + kind.width)) (drop (tokens_place b) b)) × Row (tokens kind) 0 (tokens_shown kind b)
  token_part =
      let c = head in
      let p = tokens_place b in
      row_only (tokens kind) (tokens_sound kind laws) (get_or b 15 0) (drop p b) 0 p (omega (arith, length-drop p b, c.counted)) (octets_drop p b octets) lists.token_row

  entry_part : (row_bytes (entries kind) (entries_shown kind b) ≡ take (get_or b 16 0 * (5 + kind.width)) (drop (entries_place kind b) b)) × Row (entries kind) 0 (entries_shown kind b)
  entry_part =
      let c = head in
      let p = entries_place kind b in
      row_only (entries kind) (entries_sound kind laws) (get_or b 16 0) (drop p b) 0 p (omega (arith, length-drop p b, c.counted)) (octets_drop p b octets) lists.entry_row

  rows_again : row_bytes (slots (get_or b 2 0)) (slots_shown b) ++ (row_bytes (tokens kind) (tokens_shown kind b) ++ row_bytes (entries kind) (entries_shown kind b)) ≡ drop 17 b
  rows_again =
      let c = head in
      let s = get_or b 14 0 * 9 in
      let t = get_or b 15 0 * (10 + kind.width) in
      let e = get_or b 16 0 * (5 + kind.width) in
      let p = tokens_place b in
      let q = entries_place kind b in
      let last = entry_part.0 ∙ take_all e (drop q b) (omega (arith, length-drop q b, c.counted)) in
      let middle = ap₂ ◌++◌ token_part.0 (last ∙ sym (drop-drop t p b)) ∙ take-append-drop t (drop p b) in
      ap₂ ◌++◌ slot_part.0 (middle ∙ sym (drop-drop s 17 b)) ∙ take-append-drop s (drop 17 b)

  pub written_again : frame_bytes kind (shown kind b) ≡ b
  unfolding frame_bytes shown
  written_again = ap (λ z. header_bytes kind (shown kind b) ++ z) rows_again ∙ header_again

  pub lawful_shown : LawfulFrame kind (shown kind b)
  unfolding shown
  lawful_shown =
      let c = head in
      record {
        sender_number = c.sender;
        addressee_number = c.addressee;
        another = c.another;
        tier_known = c.tier;
        source_clock_within = c.source_clock;
        destination_clock_within = c.destination_clock;
        few_slots = omega (arith, length_shown (slots (get_or b 2 0)) (get_or b 14 0) (drop 17 b), c.few_slots);
        few_tokens = omega (arith, length_shown (tokens kind) (get_or b 15 0) (drop (tokens_place b) b), c.few_tokens);
        few_entries = ap (entries_allowed (get_or b 3 0)) (length_shown (entries kind) (get_or b 16 0) (drop (entries_place kind b) b)) ∙ c.few_entries;
        slot_row = slot_part.1;
        token_row = token_part.1;
        entry_row = entry_part.1;
        own_entry = λ t.
            ⊎_elim (λ (u : not (eqb (get_or b 3 0) 0) ≡ true). absurd (eqb-false (get_or b 3 0) 0 (not-true _ u) t)) (λ (u : has_entry (get_or b 2 0) (entries_shown kind b) ≡ true). u) (or_cases (not (eqb (get_or b 3 0) 0)) _ lists.own_entry);
      }

pub exact : {V : Type 0} (kind : Kind V) → Lawful kind → Exact kind
exact kind laws = record {
  accepted = λ b o f e.
      let v = verdict_ok kind (frame_fault kind b) (shown kind b) f e in
      (subst (LawfulFrame kind) v.1 (lawful_shown kind laws b o v.0), ap (frame_bytes kind) (sym v.1) ∙ written_again kind laws b o v.0);
  read_back = λ f ok. judged_back kind laws f ok;
  written = λ f ok. let l = long_enough kind laws f ok in (octets_frame kind laws f ok, l.0, l.1);
}

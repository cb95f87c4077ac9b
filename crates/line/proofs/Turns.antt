-- The turns of the board's senders, step by step.
use Rattle.std.proofs.Common.{◌≡◌, ℕ, zero, suc, ◌+◌, ◌-◌, ◌%◌, ◌<◌, ◌≤◌, true, false, cond, List, [], ◌∷◌, ◌++◌, length, get_or, is_some, Some, None, Option, option_map, sym, refl, ap, ◌∙◌, ap₂, subst, add-one, ⊎_elim, arith}
use Rattle.std.proofs.lemmas.List.{append-nil, get_or_past}
use Rattle.std.proofs.lemmas.Bool.{cond-true, cond-false, cases_eq, cases_lt, cases_Bool, both_ways}
use Rattle.std.specs.Prelude.{IfSome}
use Rattle.std.specs.List.{range_with_len}
use Rattle.std.specs.Option.{option_or}
use denote.Ref.{Bor}
use Rattle.protocol.specs.Limits.{nodes_max}
use Rattle.line.specs.Frames.{Frame}
use Rattle.line.specs.Held.{content}
use Rattle.line.specs.Board.{next_sender, first_after, turn, latest_in, latest_of, shows}
use Rattle.line.specs.BoardOrder.{ahead}
use Rattle.line.specs.BoardHonest.{first_found}
use Rattle.line.specs.declared.held.Held.{Held}
use Rattle.line.specs.declared.board.Board.{Board}
use Rattle.line.proofs.Found.{first_answer}

-- the places of so many senders after one, in the round
abbrev pub places_after : ℕ → ℕ → List ℕ
places_after last zero = []
places_after last (suc n) = last % 16 ∷ places_after (next_sender last) n

-- up to the last place they go up by one
places_up : (last n m k : ℕ) → last + n ≤ 16 → k ≡ n + m → places_after last k ≡ range_with_len last n ++ places_after (last + n) m
places_up last zero m k l e = ap₂ places_after (omega arith) (omega arith)
places_up last (suc n) m zero l e = absurd (omega arith)
places_up last (suc n) m (suc k) l e =
    let here : last % 16 ≡ last = omega arith in
    let next : next_sender last ≡ last + 1 = omega arith in
    let end : last + 1 + n ≡ last + suc n = omega arith in
    ap₂ ◌∷◌ here (ap (λ s. places_after s k) next ∙ places_up (last + 1) n m k (omega arith) (omega arith) ∙ ap (λ s. range_with_len (last + 1) n ++ places_after s m) end)

-- and from there on they start anew
places_anew : (n : ℕ) → n ≤ 16 → places_after 16 n ≡ range_with_len 0 n
places_anew zero l = refl
places_anew (suc n) l = ap (λ xs. 0 ∷ xs) (places_up 1 n 0 n (omega arith) (omega arith) ∙ append-nil _)

pub round_of_places : (last n : ℕ) → last ≤ 16 → n ≡ 16 → places_after last n ≡ range_with_len last (16 - last) ++ range_with_len 0 last
round_of_places last n l e =
    let end : last + (16 - last) ≡ 16 = omega arith in
    places_up last (16 - last) last n (omega arith) (omega arith) ∙ ap (λ xs. range_with_len last (16 - last) ++ xs) (ap (λ s. places_after s last) end ∙ places_anew last l)

-- the places go by the remainder alone
places_same : (a b n : ℕ) → a % 16 ≡ b % 16 → places_after a n ≡ places_after b n
places_same a b zero e = refl
places_same a b (suc n) e = ap₂ ◌∷◌ e (ap (λ k. places_after (k + 1) n) e)

-- the frame in a place, beside the place
abbrev pub held_in : List (Option Held) → ℕ → Option (ℕ × Held)
held_in frames place = option_map (λ held. (place, held)) (get_or frames place None)

latest_at : (frames : List (Option Held)) (place : ℕ) → latest_in frames (place + 1) ≡ option_map content (get_or frames place None)
latest_at frames place = ap (latest_in frames) (add-one place)

-- the first place in the round that has a frame is that of the sender whose turn it is
first_or_later : (o : Option Held) (place : ℕ) (rest : Option (ℕ × Held)) (later : Option ℕ) → option_map (λ found. found.0 + 1) rest ≡ later → option_map (λ found. found.0 + 1) (option_or (option_map (λ held. (place, held)) o) rest) ≡ cond (is_some (option_map content o)) (Some (place + 1)) later
first_or_later None place rest later e = e
first_or_later (Some held) place rest later e = refl

turn_place : (frames : List (Option Held)) (last n : ℕ) → option_map (λ found. found.0 + 1) (first_answer (held_in frames) (places_after last n)) ≡ first_after (latest_in frames) last n
unfolding first_after
turn_place frames last zero = refl
turn_place frames last (suc n) =
    let next = next_sender last in
    first_or_later (get_or frames (last % 16) None) (last % 16) (first_answer (held_in frames) (places_after next n)) (first_after (latest_in frames) next n) (turn_place frames next n)
    ∙ ap (λ o. cond (is_some o) (Some next) (first_after (latest_in frames) next n)) (sym (latest_at frames (last % 16)))

held_or_later : (frames : List (Option Held)) (o : Option Held) (place : ℕ) (rest : Option (ℕ × Held)) → get_or frames place None ≡ o → IfSome rest (λ found. get_or frames found.0 None ≡ Some found.1) → IfSome (option_or (option_map (λ held. (place, held)) o) rest) (λ found. get_or frames found.0 None ≡ Some found.1)
held_or_later frames None place rest e later = later
held_or_later frames (Some held) place rest e later = e

is_held : (frames : List (Option Held)) (places : List ℕ) → IfSome (first_answer (held_in frames) places) (λ found. get_or frames found.0 None ≡ Some found.1)
is_held frames [] = tt
is_held frames (place ∷ places) = held_or_later frames (get_or frames place None) place (first_answer (held_in frames) places) refl (is_held frames places)

within : (frames : List (Option Held)) (place : ℕ) (held : Held) → get_or frames place None ≡ Some held → place < length frames
within frames place held e =
    ⊎_elim
    (λ l. l)
    (λ past. let none : ◌≡◌ {A = Option Held} (Some held) None = sym e ∙ get_or_past frames place None past in absurd cc)
    (cases_lt place (length frames))

-- a search by steps from a place on, over the places that follow in the round
pub by_steps : (frames : List (Option Held)) (last k n : ℕ) → first_answer (λ step. held_in frames ((last + step) % 16)) (range_with_len k n) ≡ first_answer (held_in frames) (places_after (last + k) n)
by_steps frames last k zero = refl
by_steps frames last k (suc n) =
    let here = held_in frames ((last + k) % 16) in
    let same : (last + (k + 1)) % 16 ≡ next_sender (last + k) % 16 = omega arith in
    ap (option_or here) (by_steps frames last (k + 1) n ∙ ap (first_answer (held_in frames)) (places_same (last + (k + 1)) (next_sender (last + k)) n same))

-- what such a search over a board finds
pub record IsTurn (board : Board) (r : Option (ℕ × Bor Held)) : Type 0 where
  pub turn : option_map (λ found. found.0 + 1) r ≡ turn (shows board)
  pub within : IfSome r (λ found. found.0 < nodes_max)
  pub frame : IfSome r (λ found. latest_of board (found.0 + 1) ≡ Some (content found.1.now))

pub turn_found : (board : Board) (r : Option (ℕ × Bor Held)) → option_map (λ found. (found.0, found.1.now)) r ≡ first_answer (held_in board.frames) (places_after board.next nodes_max) → IsTurn board r
turn_found board None e = record { turn = ap (option_map (λ found. found.0 + 1)) e ∙ turn_place board.frames board.next nodes_max; within = tt; frame = tt }
turn_found board (Some found) e =
    let held : get_or board.frames found.0 None ≡ Some found.1.now = subst (λ o. IfSome o (λ f. get_or board.frames f.0 None ≡ Some f.1)) (sym e) (is_held board.frames (places_after board.next nodes_max)) in
    record {
      turn = ap (option_map (λ found. found.0 + 1)) e ∙ turn_place board.frames board.next nodes_max;
      within = omega (arith, within board.frames found.0 found.1.now held, board.round.0);
      frame = latest_at board.frames found.0 ∙ ap (option_map content) held;
    }

-- the next sender is not ahead of itself, and every other is one step nearer from it
next_ahead : (last : ℕ) → last ≤ 16 → ahead last (next_sender last) ≡ 0
next_ahead last h = omega arith

other_ahead : (last n : ℕ) → last ≤ 16 → 1 ≤ n → n ≤ 16 → (n ≡ next_sender last → ⊥) → ahead last n ≡ ahead (next_sender last) n + 1
other_ahead last n h low high other = ⊎_elim (λ e. absurd (other e)) (λ lt. omega arith) (cases_eq n (next_sender last))

some_same : {m n : ℕ} → ◌≡◌ {A = Option ℕ} (Some m) (Some n) → m ≡ n
some_same e = cc

some_none : (o : Option Frame) → is_some o ≡ true → is_some o ≡ false → ⊥
some_none o p q = both_ways (is_some o) q p

apart : (latest : ℕ → Option Frame) (m n : ℕ) → is_some (latest m) ≡ true → is_some (latest n) ≡ false → m ≡ n → ⊥
apart latest m n p q e = some_none (latest n) (ap (λ k. is_some (latest k)) (sym e) ∙ p) q

-- no sender that has a frame comes sooner
pub soonest : (latest : ℕ → Option Frame) (last n m p : ℕ) → last ≤ 16 → first_after latest last n ≡ Some m → 1 ≤ p → p ≤ 16 → is_some (latest p) ≡ true → ahead last m ≤ ahead last p
unfolding first_after
soonest latest last zero m p h e low high s = absurd cc
soonest latest last (suc n) m p h e low high s =
    let next = next_sender last in
    ⊎_elim
    (λ here. let same : next ≡ m = some_same (sym (cond-true _ _ _ here) ∙ e) in omega (arith, next_ahead last h, ap (ahead last) same))
    (λ further.
    let later : first_after latest next n ≡ Some m = sym (cond-false _ _ _ further) ∙ e in
    let found = first_found latest next n m later in
    omega (
      arith,
      soonest latest next n m p (omega arith) later low high s,
      other_ahead last m h found.1 found.2 (apart latest m next found.0 further),
      other_ahead last p h low high (apart latest p next s further),
    ))
    (cases_Bool (is_some (latest next)))

-- where no sender is found, none has a frame
pub none_found : (latest : ℕ → Option Frame) (last n p : ℕ) → last ≤ 16 → first_after latest last n ≡ None → 1 ≤ p → p ≤ 16 → ahead last p < n → is_some (latest p) ≡ false
unfolding first_after
none_found latest last zero p h e low high near = absurd (omega arith)
none_found latest last (suc n) p h e low high near =
    let next = next_sender last in
    ⊎_elim
    (λ here. let wrong : ◌≡◌ {A = Option ℕ} (Some next) None = sym (cond-true _ _ _ here) ∙ e in absurd cc)
    (λ further.
    let later : first_after latest next n ≡ None = sym (cond-false _ _ _ further) ∙ e in
    ⊎_elim
    (λ same. ap (λ k. is_some (latest k)) same ∙ further)
    (λ other. none_found latest next n p (omega arith) later low high (omega (arith, near, other_ahead last p h low high other)))
    (cases_eq p next))
    (cases_Bool (is_some (latest next)))

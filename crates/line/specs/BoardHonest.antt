-- The board is honest.
use Rattle.std.specs.Prelude.{◌≡◌, ℕ, zero, suc, ◌+◌, ◌<◌, ◌≤◌, Bool, true, false, cond, ◌&&◌, ◌⊎◌, List, ◌++◌, is_some, Some, None, Option, option_map, option_and_then, option_to_list, ◌==◌, slice_index_or, refl}
use Rattle.std.proofs.Common.{sym, subst, ap, ◌∙◌, inl, inr, ⊎_elim, arith}
use Rattle.std.proofs.lemmas.Bool.{cases_lt}
use Rattle.protocol.specs.Limits.{nodes_max}
use Rattle.line.specs.Frames.{Frame, Sized, In}
use Rattle.line.specs.Conduct.{Honest}
use Rattle.line.specs.Held.{content, held_sized}
use Rattle.line.specs.Board.{Shown, board_line, is_postable, sender_of, posted, next_sender, first_after, turn, frames_above, latest_of, shows}
use Rattle.line.specs.declared.held.Held.{Held}
use Rattle.line.specs.declared.board.Board.{Board}

-- what is there after a choice was chosen, or was there before
pub chosen : {X : Type 0} (b : Bool) (x y : X) (o : Option X) → cond b (Some x) o ≡ Some y → ((b ≡ true) × (x ≡ y)) ⊎ (o ≡ Some y)
chosen true x y o e = inl (refl, cc)
chosen false x y o e = inr e

-- a frame that is listed is that of a sender
listed_some : (frame : Frame) (o : Option Frame) (frames : List Frame) → In frame (option_to_list o ++ frames) → (o ≡ Some frame) ⊎ In frame frames
listed_some frame (Some x) frames (inl e) = inl (ap Some (sym e))
listed_some frame (Some x) frames (inr h) = inr h
listed_some frame None frames h = inr h

pub has_sender : (latest : ℕ → Option Frame) (from n : ℕ) (frame : Frame) → In frame (frames_above latest from n) → (m : ℕ) × (from < m) × (m ≤ from + n) × (latest m ≡ Some frame)
unfolding frames_above
has_sender latest from zero frame h = absurd h
has_sender latest from (suc n) frame h =
    ⊎_elim
    (λ e. (suc from, omega arith, omega arith, e))
    (λ i. let m = has_sender latest (suc from) n frame i in (m.0, omega (arith, m.1), omega (arith, m.2), m.3))
    (listed_some frame (latest (suc from)) (frames_above latest (suc from) n) h)

first_or_later : (m from : ℕ) → from < m → (m ≡ suc from) ⊎ (suc from < m)
first_or_later m from low = ⊎_elim (λ l. inr l) (λ l. inl (omega arith)) (cases_lt (suc from) m)

-- and that of each sender is listed
in_first : (frame : Frame) (o : Option Frame) (frames : List Frame) → o ≡ Some frame → In frame (option_to_list o ++ frames)
in_first frame (Some x) frames e = inl (let same : frame ≡ x = cc in same)
in_first frame None frames e = absurd cc

in_others : (frame : Frame) (o : Option Frame) (frames : List Frame) → In frame frames → In frame (option_to_list o ++ frames)
in_others frame (Some x) frames h = inr h
in_others frame None frames h = h

pub is_listed : (latest : ℕ → Option Frame) (from n m : ℕ) (frame : Frame) → from < m → m ≤ from + n → latest m ≡ Some frame → In frame (frames_above latest from n)
unfolding frames_above
is_listed latest from zero m frame low high e = absurd (omega arith)
is_listed latest from (suc n) m frame low high e =
    ⊎_elim
    (λ first. in_first frame (latest (suc from)) (frames_above latest (suc from) n) (ap latest (sym first) ∙ e))
    (λ later. in_others frame (latest (suc from)) (frames_above latest (suc from) n) (is_listed latest (suc from) n m frame (omega arith) (omega arith) e))
    (first_or_later m from low)

-- the sender whose turn it is has a frame
pub first_found : (latest : ℕ → Option Frame) (last n m : ℕ) → first_after latest last n ≡ Some m → (is_some (latest m) ≡ true) × (1 ≤ m) × (m ≤ nodes_max)
unfolding first_after
first_found latest last zero m e = absurd cc
first_found latest last (suc n) m e =
    ⊎_elim
    (λ here. (ap (λ k. is_some (latest k)) (sym here.1) ∙ here.0, omega (arith, here.1), omega (arith, here.1)))
    (λ further. first_found latest (next_sender last) n m further)
    (chosen (is_some (latest (next_sender last))) (next_sender last) m (first_after latest (next_sender last) n) e)

-- what the places hold has the length of a frame
held_or_none : (place : Option Held) (frame : Frame) → option_map content place ≡ Some frame → Sized frame
held_or_none (Some held) frame e = let same : content held ≡ frame = cc in subst Sized same (held_sized held)
held_or_none None frame e = absurd cc

latest_sized : (board : Board) (n : ℕ) (frame : Frame) → latest_of board n ≡ Some frame → Sized frame
latest_sized board zero frame e = absurd cc
latest_sized board (suc at) frame e = held_or_none (slice_index_or board.frames at None) frame e

put_in : (latest : ℕ → Option Frame) (new frame : Frame) → In frame (frames_above (posted latest new) 0 nodes_max) → In frame (frames_above latest 0 nodes_max) ⊎ (frame ≡ new)
put_in latest new frame h =
    let m = has_sender (posted latest new) 0 nodes_max frame h in
    ⊎_elim
    (λ here. inr (sym here.1))
    (λ before. inl (is_listed latest 0 nodes_max m.0 frame m.1 m.2 before))
    (chosen (is_postable new && m.0 == sender_of new) new frame (latest m.0) m.3)

gave_in : (latest : ℕ → Option Frame) (last : ℕ) (o : Option ℕ) (frame : Frame) → first_after latest last nodes_max ≡ o → Some frame ≡ option_and_then latest o → In frame (frames_above latest 0 nodes_max)
gave_in latest last None frame t e = absurd cc
gave_in latest last (Some m) frame t e =
    let found = first_found latest last nodes_max m t in
    is_listed latest 0 nodes_max m frame (omega (arith, found.1)) (omega (arith, found.2)) (sym e)

pub board_honest : Honest board_line
board_honest = record {
  sized = λ s frame h. let m = has_sender (latest_of s) 0 nodes_max frame h in latest_sized s m.0 frame m.3;
  put = λ s t new frame e h. put_in (latest_of s) new frame (subst (λ (shown : Shown). In frame (frames_above shown.latest 0 nodes_max)) e h);
  gave = λ s t frame e. gave_in (latest_of s) s.next (turn (shows s)) frame refl e.0;
  took = λ s t answer frame e h. subst (λ (shown : Shown). In frame (frames_above shown.latest 0 nodes_max)) e.1 h;
}

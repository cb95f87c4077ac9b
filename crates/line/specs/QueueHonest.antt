-- The queue is honest.
use Rattle.std.specs.Prelude.{◌≡◌, ℕ, zero, suc, Bool, true, false, cond, ◌⊎◌, List, [], ◌∷◌, ◌++◌, length, Some, slice_index_or}
use Rattle.std.proofs.Common.{sym, subst, inl, inr, ⊎_elim}
use Rattle.line.specs.Frames.{Frame, Sized, In}
use Rattle.line.specs.Conduct.{Honest}
use Rattle.line.specs.Held.{blank, held_sized}
use Rattle.line.specs.Queue.{queue_line, queued, around, next_place, oldest, without_oldest, accepts}
use Rattle.line.specs.declared.held.Held.{Held}

around_sized : (places : List Held) (at n : ℕ) (frame : Frame) → In frame (around places at n) → Sized frame
around_sized places at zero frame h = absurd h
around_sized places at (suc n) frame (inl e) = subst Sized (sym e) (held_sized (slice_index_or places at blank))
around_sized places at (suc n) frame (inr h) = around_sized places (next_place at) n frame h

in_push : (xs : List Frame) (new frame : Frame) → In frame (xs ++ new ∷ []) → In frame xs ⊎ (frame ≡ new)
in_push [] new frame (inl e) = inr e
in_push [] new frame (inr h) = absurd h
in_push (x ∷ xs) new frame (inl e) = inl (inl e)
in_push (x ∷ xs) new frame (inr h) = ⊎_elim (λ i. inl (inr i)) inr (in_push xs new frame h)

put_in : (kept : Bool) (xs : List Frame) (new frame : Frame) → In frame (cond kept (xs ++ new ∷ []) xs) → In frame xs ⊎ (frame ≡ new)
put_in true xs new frame h = in_push xs new frame h
put_in false xs new frame h = inl h

gave_in : (xs : List Frame) (frame : Frame) → Some frame ≡ oldest xs → In frame xs
gave_in [] frame e = absurd cc
gave_in (x ∷ xs) frame e = inl cc

took_in : (xs : List Frame) (frame : Frame) → In frame (without_oldest xs) → In frame xs
took_in [] frame h = h
took_in (x ∷ xs) frame h = inr h

pub queue_honest : Honest queue_line
queue_honest = record {
  sized = λ s frame h. around_sized s.places s.first s.count frame h;
  put = λ s t new frame e h. put_in (accepts (length (queued s)) new) (queued s) new frame (subst (In frame) e h);
  gave = λ s t frame e. gave_in (queued s) frame e.0;
  took = λ s t answer frame e h. took_in (queued s) frame (subst (In frame) e.1 h);
}

-- The order of the queue over a session.
use Rattle.std.proofs.Common.{◌≡◌, ℕ, suc, ◌+◌, ◌-◌, ◌<◌, ◌≤◌, Bool, true, false, cond, ◌⊎◌, List, [], ◌∷◌, ◌++◌, length, Some, None, sym, refl, ap, ◌∙◌, ap₂, inl, inr, ⊎_elim, arith}
use Rattle.std.proofs.lemmas.List.{append-nil, append_assoc, length_push}
use Rattle.std.proofs.lemmas.Bool.{cond-true, cond-false, and_from, and_left, and_right, le-leb, lt-leb, lt-ltb, le-ltb, cases_lt}
use Rattle.line.specs.Places.{queue_places}
use Rattle.line.specs.Frames.{Frame, Sized}
use Rattle.line.specs.Session.{Event, Session, put, took, given}
use Rattle.line.specs.Queue.{queue_line, queue_rule, queued, accepts, oldest, without_oldest}
use Rattle.line.specs.QueueOrder.{accepted, QueueOrder}
use Rattle.line.specs.declared.queue.Queue.{Queue}
use Rattle.line.proofs.Ring.{length_queued}
use Rattle.line.proofs.Sessions.{one_outcome}

after_put : (kept : Bool) (xs ys : List Frame) (frame : Frame) (events : List Event) → ys ≡ cond kept (xs ++ frame ∷ []) xs → xs ++ cond kept (frame ∷ accepted (length xs + 1) events) (accepted (length xs) events) ≡ ys ++ accepted (length ys) events
after_put true xs ys frame events e =
    ap (λ n. xs ++ frame ∷ accepted n events) (sym (length_push xs frame)) ∙ sym (append_assoc xs (frame ∷ []) (accepted (length (xs ++ frame ∷ [])) events)) ∙ ap (λ zs. zs ++ accepted (length zs) events) (sym e)
after_put false xs ys frame events e = ap (λ zs. zs ++ accepted (length zs) events) (sym e)

after_frame : (xs ys : List Frame) (frame : Frame) (events : List Event) → Some frame ≡ oldest xs → ys ≡ without_oldest xs → xs ++ accepted (length xs - 1) events ≡ frame ∷ (ys ++ accepted (length ys) events)
after_frame [] ys frame events o e = absurd cc
after_frame (x ∷ xs) ys frame events o e =
    let same : x ≡ frame = cc in
    let n : suc (length xs) - 1 ≡ length xs = omega arith in
    ap₂ ◌∷◌ same (ap (λ k. xs ++ accepted k events) n ∙ ap (λ zs. zs ++ accepted (length zs) events) (sym e))

after_none : (xs ys : List Frame) → None ≡ oldest xs → ys ≡ without_oldest xs → (xs ≡ []) × (xs ≡ ys)
after_none [] ys o e = (refl, sym e)
after_none (x ∷ xs) ys o e = absurd cc

goes_on : (s t : Queue) (events : List Event) → Session queue_line s events t → queued s ++ accepted (length (queued s)) events ≡ given events ++ queued t
goes_on s t [] e = append-nil (queued s) ∙ sym (ap queued e)
goes_on s t (put frame ∷ events) (u, p, rest) = after_put (accepts (length (queued s)) frame) (queued s) (queued u) frame events p ∙ goes_on u t events rest
goes_on s t (took (Some frame) ∷ events) (u, p, rest) = after_frame (queued s) (queued u) frame events p.0 p.1 ∙ ap (λ zs. frame ∷ zs) (goes_on u t events rest)
goes_on s t (took None ∷ events) (u, p, rest) =
    let same = (after_none (queued s) (queued u) p.0 p.1).1 in
    ap (λ zs. zs ++ accepted (length zs) events) same ∙ goes_on u t events rest

in_order : (s t : Queue) (events : List Event) → queued s ≡ [] → Session queue_line s events t → accepted 0 events ≡ given events ++ queued t
in_order s t events e session = ap (λ zs. zs ++ accepted (length zs) events) (sym e) ∙ goes_on s t events session

is_accepted : (n : ℕ) (frame : Frame) → Sized frame → n < queue_places → accepts n frame ≡ true
is_accepted n frame h room = and_from _ _ (and_from _ _ (le-leb _ _ h.0) (le-leb _ _ h.1)) (lt-ltb _ _ room)

is_lost : (n : ℕ) (frame : Frame) → (Sized frame → ⊥) ⊎ (queue_places ≤ n) → accepts n frame ≡ false
is_lost n frame (inl wrong) =
    ⊎_elim
    (λ short. and_left _ _ (and_left _ _ (lt-leb _ _ short)))
    (λ long. ⊎_elim (λ too. and_left _ _ (and_right _ _ (lt-leb _ _ too))) (λ fits. absurd (wrong (long, fits))) (cases_lt 1836 (length frame)))
    (cases_lt (length frame) 17)
is_lost n frame (inr full) = and_right _ _ (le-ltb _ _ full)

pub queue_order : QueueOrder
queue_order = record {
  in_order = in_order;
  goes_on = goes_on;
  kept = λ s t frame p h room. p ∙ cond-true _ _ _ (is_accepted _ frame h room);
  lost = λ s t frame p why. p ∙ cond-false _ _ _ (is_lost _ frame why);
  bounded = λ s. omega (arith, length_queued s, s.ring);
  none_waits = λ s t p. (after_none (queued s) (queued t) p.0 p.1).0;
  one_outcome = one_outcome queued queue_rule;
}

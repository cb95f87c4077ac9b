-- The turns of the board over a session.
use Rattle.std.proofs.Common.{◌≡◌, ℕ, zero, suc, ◌+◌, ◌<◌, ◌≤◌, Bool, true, false, cond, ◌&&◌, eqb, List, [], ◌∷◌, ◌++◌, is_some, Some, None, Option, sym, refl, ap, ◌∙◌, subst, inl, inr, ⊎_elim, arith}
use Rattle.std.proofs.lemmas.Bool.{cond-true, cond-false, and_from, and_right, and_parts, eqb-true, eq-eqb, ne_eqb, leb-true, cases_Bool, both_ways}
use Rattle.std.specs.Option.{option_or, option_and_then, option_to_list, unwrap_or}
use Rattle.protocol.specs.Limits.{nodes_max}
use Rattle.line.specs.Frames.{Frame, In}
use Rattle.line.specs.Session.{Event, Session, put, took, sent}
use Rattle.line.specs.Board.{Shown, board_line, board_rule, sender_of, Postable, is_postable, posted, frames_above, first_after, turn, latest_of, shows, nothing_shown}
use Rattle.line.specs.BoardHonest.{chosen, first_found}
use Rattle.line.specs.BoardOrder.{latest_put, last_given, ahead, Since, BoardOrder}
use Rattle.line.specs.declared.board.Board.{Board}
use Rattle.line.proofs.Posts.{is_postable_if, lost_shows}
use Rattle.line.proofs.Sessions.{one_outcome}
use Rattle.line.proofs.Turns.{soonest, none_found}

-- what a test for a frame that is kept tells
postable : (frame : Frame) → is_postable frame ≡ true → Postable frame
postable frame e =
    let both = and_parts _ _ e in
    let size = and_parts _ _ both.0 in
    let number = and_parts _ _ both.1 in
    ((leb-true _ _ size.0, leb-true _ _ size.1), leb-true _ _ number.0, leb-true _ _ number.1)

-- the frames of the senders after a session are the latest put, or those of before
later : (o x : Option Frame) (b : Bool) (frame : Frame) → option_or o (cond b (Some frame) x) ≡ option_or (option_or o (cond b (Some frame) None)) x
later (Some y) x b frame = refl
later None x true frame = refl
later None x false frame = refl

latest_after : (s t : Board) (events : List Event) → Session board_line s events t → (n : ℕ) → latest_of t n ≡ option_or (latest_put n events) (latest_of s n)
latest_after s t [] e n = ap (λ board. latest_of board n) e
latest_after s t (put frame ∷ events) (u, p, rest) n =
    latest_after u t events rest n
    ∙ ap (λ (shown : Shown). option_or (latest_put n events) (shown.latest n)) p
    ∙ later (latest_put n events) (latest_of s n) (is_postable frame && eqb n (sender_of frame)) frame
latest_after s t (took answer ∷ events) (u, p, rest) n =
    latest_after u t events rest n ∙ ap (λ (shown : Shown). option_or (latest_put n events) (shown.latest n)) p.1

-- each sender's frame names that sender
Named : (ℕ → Option Frame) → Type 0
Named latest = (n : ℕ) (frame : Frame) → latest n ≡ Some frame → sender_of frame ≡ n

named_put : (latest : ℕ → Option Frame) (new : Frame) → Named latest → Named (posted latest new)
unfolding Named
named_put latest new h n frame e =
    ⊎_elim
    (λ here. ap sender_of (sym here.1) ∙ sym (eqb-true n (sender_of new) (and_parts _ _ here.0).1))
    (λ before. h n frame before)
    (chosen (is_postable new && eqb n (sender_of new)) new frame (latest n) e)

-- whose turn it is when a frame is given, and when none is
given_turn : (latest : ℕ → Option Frame) (o : Option ℕ) (frame : Frame) → Some frame ≡ option_and_then latest o → (n : ℕ) × (o ≡ Some n) × (latest n ≡ Some frame)
given_turn latest (Some n) frame e = (n, refl, sym e)
given_turn latest None frame e = absurd cc

none_turn : (latest : ℕ → Option Frame) (last : ℕ) (o : Option ℕ) → first_after latest last nodes_max ≡ o → None ≡ option_and_then latest o → o ≡ None
none_turn latest last None t e = refl
none_turn latest last (Some n) t e = absurd (both_ways false refl (ap is_some e ∙ (first_found latest last nodes_max n t).0))

-- the last one given after a session
last_after : (s t : Board) (events : List Event) → Named (latest_of s) → Session board_line s events t → t.next ≡ last_given s.next events
unfolding Named
last_after s t [] h e = ap (λ (board : Board). board.next) e
last_after s t (put frame ∷ events) h (u, p, rest) =
    last_after u t events (subst Named (sym (ap (λ (shown : Shown). shown.latest) p)) (named_put (latest_of s) frame h)) rest ∙ ap (λ (shown : Shown). last_given shown.last events) p
last_after s t (took (Some frame) ∷ events) h (u, p, rest) =
    let mine = given_turn (latest_of s) (turn (shows s)) frame p.0 in
    last_after u t events (subst Named (sym (ap (λ (shown : Shown). shown.latest) p.1)) h) rest
    ∙ ap (λ (shown : Shown). last_given shown.last events) p.1
    ∙ ap (λ o. last_given (unwrap_or o s.next) events) mine.1
    ∙ ap (λ n. last_given n events) (sym (h mine.0 frame mine.2))
last_after s t (took None ∷ events) h (u, p, rest) =
    let nobody = none_turn (latest_of s) s.next (turn (shows s)) refl p.0 in
    last_after u t events (subst Named (sym (ap (λ (shown : Shown). shown.latest) p.1)) h) rest
    ∙ ap (λ (shown : Shown). last_given shown.last events) p.1
    ∙ ap (λ o. last_given (unwrap_or o s.next) events) nobody

-- what was put last by a sender names it, and was kept
put_kept : (n : ℕ) (events : List Event) (frame : Frame) → latest_put n events ≡ Some frame → Postable frame × (sender_of frame ≡ n)
put_kept n [] frame e = absurd cc
put_kept n (took answer ∷ events) frame e = put_kept n events frame e
put_kept n (put new ∷ events) frame e = put_or_later (latest_put n events) (put_kept n events frame) e
  where
    put_or_later : (o : Option Frame) → (o ≡ Some frame → Postable frame × (sender_of frame ≡ n)) → option_or o (cond (is_postable new && eqb n (sender_of new)) (Some new) None) ≡ Some frame → Postable frame × (sender_of frame ≡ n)
    put_or_later (Some x) h i = h i
    put_or_later None h i =
        ⊎_elim
        (λ here.
        let test = and_parts _ _ here.0 in
        (subst Postable here.1 (postable new test.0), ap sender_of (sym here.1) ∙ sym (eqb-true n (sender_of new) test.1)))
        (λ before. h before)
        (chosen (is_postable new && eqb n (sender_of new)) new frame None i)

-- and each that is kept is followed by a latest one
some_put : (events : List Event) (frame : Frame) → In frame (sent events) → Postable frame → is_some (latest_put (sender_of frame) events) ≡ true
some_put [] frame h k = absurd h
some_put (took answer ∷ events) frame h k = some_put events frame h k
some_put (put new ∷ events) frame (inl e) k =
    let test : (is_postable new && eqb (sender_of frame) (sender_of new)) ≡ true = and_from _ _ (is_postable_if new (subst Postable e k)) (eq-eqb _ _ (ap sender_of e)) in
    some_last (latest_put (sender_of frame) events) (cond (is_postable new && eqb (sender_of frame) (sender_of new)) (Some new) None) (ap is_some (cond-true _ (Some new) None test))
  where
    some_last : (o x : Option Frame) → is_some x ≡ true → is_some (option_or o x) ≡ true
    some_last (Some y) x h = refl
    some_last None x h = h
some_put (put new ∷ events) frame (inr i) k = some_first (latest_put (sender_of frame) events) _ (some_put events frame i k)
  where
    some_first : (o x : Option Frame) → is_some o ≡ true → is_some (option_or o x) ≡ true
    some_first (Some y) x h = refl
    some_first None x h = absurd cc

-- from an empty board
named_none : (s : Board) → shows s ≡ nothing_shown → Named (latest_of s)
unfolding Named
named_none s e n frame h = let none = ap (λ (shown : Shown). shown.latest n) e in absurd cc

option_or_none : (o x : Option Frame) → x ≡ None → option_or o x ≡ o
option_or_none (Some y) x e = refl
option_or_none None x e = e

latest_since : (events : List Event) (t : Board) → Since events t → (n : ℕ) → latest_of t n ≡ latest_put n events
latest_since events t since n =
    latest_after since.start t events since.session n ∙ option_or_none (latest_put n events) (latest_of since.start n) (ap (λ (shown : Shown). shown.latest n) since.empty)

last_since : (events : List Event) (t : Board) → Since events t → t.next ≡ last_given 0 events
last_since events t since =
    last_after since.start t events (named_none since.start since.empty) since.session ∙ ap (λ (shown : Shown). last_given shown.last events) since.empty

gives_latest : (events : List Event) (t u : Board) → Since events t → (frame : Frame) → board_line.takes t (Some frame) u → latest_put (sender_of frame) events ≡ Some frame
gives_latest events t u since frame p =
    let mine = given_turn (latest_of t) (turn (shows t)) frame p.0 in
    let latest : latest_put mine.0 events ≡ Some frame = sym (latest_since events t since mine.0) ∙ mine.2 in
    ap (λ n. latest_put n events) (put_kept mine.0 events frame latest).1 ∙ latest

in_turn : (events : List Event) (t u : Board) → Since events t → (frame : Frame) → board_line.takes t (Some frame) u → (n : ℕ) (other : Frame) → latest_put n events ≡ Some other → ahead (last_given 0 events) (sender_of frame) ≤ ahead (last_given 0 events) n
in_turn events t u since frame p n other e =
    let mine = given_turn (latest_of t) (turn (shows t)) frame p.0 in
    let named = (put_kept mine.0 events frame (sym (latest_since events t since mine.0) ∙ mine.2)).1 in
    let kept = put_kept n events other e in
    let some : is_some (latest_of t n) ≡ true = ap is_some (latest_since events t since n ∙ e) in
    let soon = soonest (latest_of t) t.next nodes_max mine.0 n t.round.1 mine.1 (omega (arith, kept.1, kept.0.1)) (omega (arith, kept.1, kept.0.2)) some in
    subst (λ k. ahead k (sender_of frame) ≤ ahead k n) (last_since events t since) (subst (λ k. ahead t.next k ≤ ahead t.next n) (sym named) soon)

-- no sender has a frame when taking says none
nobody_has : (s : Board) → None ≡ option_and_then (latest_of s) (turn (shows s)) → (n : ℕ) → 1 ≤ n → n ≤ nodes_max → is_some (latest_of s n) ≡ false
nobody_has s e n low high = none_found (latest_of s) s.next nodes_max n s.round.1 (none_turn (latest_of s) s.next (turn (shows s)) refl e) low high (omega arith)

none_put : (events : List Event) (t u : Board) → Since events t → board_line.takes t None u → (frame : Frame) → In frame (sent events) → Postable frame → ⊥
none_put events t u since p frame h k =
    both_ways _ (nobody_has t p.0 (sender_of frame) k.1 k.2) (ap is_some (latest_since events t since (sender_of frame)) ∙ some_put events frame h k)

listed_none : (o : Option Frame) (frames : List Frame) → is_some o ≡ false → frames ≡ [] → option_to_list o ++ frames ≡ []
listed_none (Some x) frames h e = absurd cc
listed_none None frames h e = e

none_above : (latest : ℕ → Option Frame) (from n : ℕ) → ((m : ℕ) → from < m → m ≤ from + n → is_some (latest m) ≡ false) → frames_above latest from n ≡ []
unfolding frames_above
none_above latest from zero h = refl
none_above latest from (suc n) h =
    listed_none (latest (suc from)) (frames_above latest (suc from) n) (h (suc from) (omega arith) (omega arith)) (none_above latest (suc from) n (λ m low high. h m (omega arith) (omega arith)))

not_postable : (frame : Frame) → (Postable frame → ⊥) → is_postable frame ≡ false
not_postable frame h = ⊎_elim (λ e. absurd (h (postable frame e))) (λ e. e) (cases_Bool (is_postable frame))

pub board_order : BoardOrder
board_order = record {
  gives_latest = gives_latest;
  in_turn = in_turn;
  none_put = none_put;
  none_waits = λ s t p. none_above (latest_of s) 0 nodes_max (λ m low high. nobody_has s p.0 m (omega arith) (omega arith));
  kept = λ s t frame p h. ap (λ (shown : Shown). shown.latest (sender_of frame)) p ∙ cond-true _ _ _ (and_from _ _ (is_postable_if frame h) (eq-eqb _ _ refl));
  lost = λ s t frame p h. p ∙ sym (lost_shows s frame (not_postable frame h));
  others_stay = λ s t frame p n other. ap (λ (shown : Shown). shown.latest n) p ∙ cond-false _ _ _ (and_right _ _ (ne_eqb n (sender_of frame) other));
  stays = λ s t answer p n. ap (λ (shown : Shown). shown.latest n) p.1;
  one_outcome = one_outcome shows board_rule;
}

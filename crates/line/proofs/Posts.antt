-- What the places of a board show: at first nothing, and then one frame more.
use Rattle.std.proofs.Common.{◌≡◌, ℕ, zero, suc, true, false, List, [], get_or, None, Option, option_map, sym, refl, ap, ◌∙◌}
use Rattle.std.proofs.lemmas.Bool.{cond-false, and_from, and_left, le-leb}
use Rattle.protocol.specs.Limits.{nodes_max}
use Rattle.line.specs.Frames.{Frame}
use Rattle.line.specs.Held.{content}
use Rattle.line.specs.Board.{Shown, Postable, is_postable, frames_above, latest_in, shows, nothing_shown, board_rule}
use Rattle.line.specs.declared.held.Held.{Held}
use Rattle.line.specs.declared.board.Board.{Board}

same_shown : (x y : Shown) → ((n : ℕ) → x.latest n ≡ y.latest n) → x.last ≡ y.last → x ≡ y
same_shown x y l e = λ i. record { latest = λ n. l n i; last = e i }

-- at first
unheard_none : (frames : List (Option Held)) → ((at : ℕ) → get_or frames at None ≡ None) → (n : ℕ) → latest_in frames n ≡ None
unheard_none frames h zero = refl
unheard_none frames h (suc at) = ap (option_map content) (h at)

pub unheard_shows : (frames : List (Option Held)) → ((at : ℕ) → get_or frames at None ≡ None) → ◌≡◌ {A = Shown} (record { latest = latest_in frames; last = 0 }) nothing_shown
unheard_shows frames h = same_shown _ _ (unheard_none frames h) refl

none_above : frames_above (λ n. None) 0 nodes_max ≡ []
unfolding frames_above
none_above = refl

pub unheard_waiting : (frames : List (Option Held)) → ((at : ℕ) → get_or frames at None ≡ None) → frames_above (latest_in frames) 0 nodes_max ≡ []
unheard_waiting frames h = ap (λ (shown : Shown). frames_above shown.latest 0 nodes_max) (unheard_shows frames h) ∙ none_above

-- once a frame is put
pub is_postable_if : (frame : Frame) → Postable frame → is_postable frame ≡ true
is_postable_if frame h = and_from _ _ (and_from _ _ (le-leb _ _ h.0.0) (le-leb _ _ h.0.1)) (and_from _ _ (le-leb _ _ h.1) (le-leb _ _ h.2))

pub lost_shows : (s : Board) (frame : Frame) → is_postable frame ≡ false → shows s ≡ board_rule.put (shows s) frame
lost_shows s frame e = same_shown _ _ (λ n. sym (cond-false _ _ _ (and_left _ _ e))) refl

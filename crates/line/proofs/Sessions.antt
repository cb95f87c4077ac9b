-- What holds of every session: honest lines invent nothing, and lines by rule have one outcome.
use Rattle.std.proofs.Common.{◌≡◌, ◌⊎◌, List, [], ◌∷◌, map, sym, refl, ap, ◌∙◌, subst, ap₂, inl, inr, ⊎_elim}
use Rattle.line.specs.Frames.{Frame, In}
use Rattle.line.specs.Conduct.{Conduct, Honest}
use Rattle.line.specs.Rule.{Rule, by_rule}
use Rattle.line.specs.Session.{Event, Session, put, took, sent, called, OneOutcome, InventsNothing}

module _ {S : Type 0} {line : Conduct S} (honest : Honest line) where
  waits : (s t : S) (events : List Event) → Session line s events t → (frame : Frame) → In frame (line.waiting t) → In frame (line.waiting s) ⊎ In frame (sent events)
  waits s t [] e frame h = inl (subst (λ u. In frame (line.waiting u)) e h)
  waits s t (put new ∷ events) (u, p, rest) frame h =
      ⊎_elim (λ i. ⊎_elim inl (λ e. inr (inl e)) (honest.put s u new frame p i)) (λ j. inr (inr j)) (waits u t events rest frame h)
  waits s t (took answer ∷ events) (u, p, rest) frame h = ⊎_elim (λ i. inl (honest.took s u answer frame p i)) inr (waits u t events rest frame h)

  pub invents_nothing : InventsNothing line
  invents_nothing = record {
    waits = waits;
    gives = λ s t u events session frame p.
        let waited = honest.gave t u frame p in
        (honest.sized t frame waited, waits s t events session frame waited);
  }

module _ {S V : Type 0} (shows : S → V) (rule : Rule V) where
  pub one_outcome : OneOutcome shows (by_rule shows rule)
  one_outcome s s' t t' [] [] v c e e' = (refl, ap shows e ∙ v ∙ sym (ap shows e'))
  one_outcome s s' t t' [] (x ∷ xs) v c e e' = absurd cc
  one_outcome s s' t t' (x ∷ xs) [] v c e e' = absurd cc
  one_outcome s s' t t' (put f ∷ xs) (took a ∷ ys) v c e e' = absurd cc
  one_outcome s s' t t' (took a ∷ xs) (put f ∷ ys) v c e e' = absurd cc
  one_outcome s s' t t' (put f ∷ xs) (put g ∷ ys) v c (u, p, rest) (u', p', rest') =
      let same : f ≡ g = cc in
      let calls : map called xs ≡ map called ys = cc in
      let goes_on = one_outcome u u' t t' xs ys (p ∙ ap₂ rule.put v same ∙ sym p') calls rest rest' in
      (ap₂ (λ h hs. put h ∷ hs) same goes_on.0, goes_on.1)
  one_outcome s s' t t' (took a ∷ xs) (took b ∷ ys) v c (u, p, rest) (u', p', rest') =
      let same : a ≡ b = p.0 ∙ ap rule.gives v ∙ sym p'.0 in
      let calls : map called xs ≡ map called ys = cc in
      let goes_on = one_outcome u u' t t' xs ys (p.1 ∙ ap rule.left v ∙ sym p'.1) calls rest rest' in
      (ap₂ (λ h hs. took h ∷ hs) same goes_on.0, goes_on.1)

-- The first bytes of a frame, judged by themselves.
use Rattle.std.proofs.Common.{◌≡◌, ℕ, ◌<◌, List, get_or, take, Option, ap, ◌∙◌, lit<}
use Rattle.std.proofs.lemmas.List.{get_or-take}
use Rattle.protocol.specs.declared.refusal.FrameFault.{FrameFault}
use Rattle.tally.specs.Kind.{Kind}
use Rattle.frame.specs.Frames.{parties_fault, state_fault, counted_fault}

module _ (header b : List ℕ) (front : header ≡ take 17 b) where
  byte : (i : ℕ) → i < 17 → get_or header i 0 ≡ get_or b i 0
  byte i h = ap (λ z. get_or z i 0) front ∙ get_or-take 17 b i 0 h

  -- an answer to the first bytes is one to the whole frame
  module _ (answer : Option FrameFault) where
    pub parties_alike : answer ≡ parties_fault header → answer ≡ parties_fault b
    parties_alike e = rw (byte 2 (lit< tt), byte 3 (lit< tt), byte 4 (lit< tt)) at e

    pub state_alike : answer ≡ state_fault header → answer ≡ state_fault b
    state_alike e =
        rw (byte 5 (lit< tt), byte 6 (lit< tt), byte 7 (lit< tt), byte 8 (lit< tt), byte 9 (lit< tt), byte 10 (lit< tt), byte 11 (lit< tt), byte 12 (lit< tt), byte 13 (lit< tt)) at e

    pub counted_alike : {V : Type 0} (kind : Kind V) (long : ℕ) → answer ≡ counted_fault kind header long → answer ≡ counted_fault kind b long
    counted_alike kind long e = rw (byte 3 (lit< tt), byte 14 (lit< tt), byte 15 (lit< tt), byte 16 (lit< tt)) at e

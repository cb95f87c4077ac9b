-- What a line adds that writes bytes.
use Rattle.std.proofs.Common.{◌≡◌, ℕ, ◌≤◌, List, [], ◌∷◌, length, Ok, Result, refl, sym, ap, ◌∙◌, arith}
use Rattle.tally.specs.Kind.{Kind}
use Rattle.protocol.specs.declared.refusal.FrameFault.{FrameFault}
use Rattle.frame.specs.Frames.{Frame, judge}
use Rattle.frame_logs.specs.declared.summary.Summary.{Summary}
use Rattle.frame_logs.specs.Lines.{line_bytes}
use Rattle.framelog.specs.declared.scan.Scan.{Scan}
use Rattle.framelog.specs.Lines.{with_judged, with_bytes, with_line}

some_bytes : {V : Type 0} (kind : Kind V) (s : Summary) (bytes : List ℕ) → 1 ≤ length bytes → with_bytes kind s (Ok bytes) ≡ with_judged s (judge kind bytes)
some_bytes kind s [] h = absurd (omega arith)
some_bytes kind s (b ∷ bytes) h = refl

pub judged_line : {V : Type 0} (kind : Kind V) (before after : Scan) (text bytes : List ℕ) (judged : Result (Frame V) FrameFault) → line_bytes text ≡ Ok bytes → 1 ≤ length bytes → judged ≡ judge kind bytes → after ≡ record before { summary = with_judged before.summary judged }
    → after ≡ record before { summary = with_line kind before.summary text }
judged_line kind before after text bytes judged e h is counted =
    let line = ap (with_bytes kind before.summary) e ∙ some_bytes kind before.summary bytes h ∙ ap (with_judged before.summary) (sym is) in
    counted ∙ ap (λ (s : Summary). record before { summary = s }) (sym line)

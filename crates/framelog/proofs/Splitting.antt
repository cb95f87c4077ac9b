-- The lines of a text that goes on, and the scan of a log so far.
use Rattle.std.proofs.Common.{◌≡◌, ℕ, ◌+◌, ◌≤◌, Bool, true, false, cond, eqb, List, [], ◌∷◌, ◌++◌, length, Option, refl, sym, ap, ◌∙◌, subst, arith, length-append}
use Rattle.std.proofs.KnownBytes.{Consumes-trans}
use Rattle.std.specs.Io.KnownBytes.{Consumes}
use Rattle.tally.specs.Kind.{Kind}
use Rattle.frame_logs.specs.declared.line.Line.{Line}
use Rattle.frame_logs.specs.declared.summary.Summary.{Summary}
use Rattle.frame_logs.specs.Lines.{Holds}
use Rattle.framelog.specs.declared.scan.Scan.{Scan}
use Rattle.framelog.specs.Lines.{with_line}
use Rattle.framelog.specs.Logs.{ended, open_line, with_lines}

-- by whether the first byte ends a line
ended_by : (t : Bool) (line next text more : List ℕ) → ended [] (text ++ more) ≡ ended [] text ++ ended (open_line [] text) more → ended next (text ++ more) ≡ ended next text ++ ended (open_line next text) more
    → cond t (line ∷ ended [] (text ++ more)) (ended next (text ++ more)) ≡ cond t (line ∷ ended [] text) (ended next text) ++ ended (cond t (open_line [] text) (open_line next text)) more
ended_by true line next text more p q = ap (λ z. line ∷ z) p
ended_by false line next text more p q = q

ended_more : (line text more : List ℕ) → ended line (text ++ more) ≡ ended line text ++ ended (open_line line text) more
ended_more line [] more = refl
ended_more line (b ∷ text) more = ended_by (eqb b 10) line (line ++ b ∷ []) text more (ended_more [] text more) (ended_more (line ++ b ∷ []) text more)

open_by : (t : Bool) (next text more : List ℕ) → open_line [] (text ++ more) ≡ open_line (open_line [] text) more → open_line next (text ++ more) ≡ open_line (open_line next text) more
    → cond t (open_line [] (text ++ more)) (open_line next (text ++ more)) ≡ open_line (cond t (open_line [] text) (open_line next text)) more
open_by true next text more p q = p
open_by false next text more p q = q

open_more : (line text more : List ℕ) → open_line line (text ++ more) ≡ open_line (open_line line text) more
open_more line [] more = refl
open_more line (b ∷ text) more = open_by (eqb b 10) (line ++ b ∷ []) text more (open_more [] text more) (open_more (line ++ b ∷ []) text more)

module _ {V : Type 0} (kind : Kind V) where
  lines_more : (s : Summary) (xs ys : List (List ℕ)) → with_lines kind s (xs ++ ys) ≡ with_lines kind (with_lines kind s xs) ys
  lines_more s [] ys = refl
  lines_more s (x ∷ xs) ys = lines_more (with_line kind s x) xs ys

  -- the scan that a first one has become, and the line in hand, after a text that goes on from a line
  abbrev pub Reached : Scan → List ℕ → List ℕ → Scan → Line → Type 0
  Reached first line text scan hand = (scan ≡ record first { summary = with_lines kind first.summary (ended line text) }) × Holds hand (open_line line text)

  -- more of the text
  pub reached_more : (first : Scan) (line text more : List ℕ) (before after : Scan) (hand next : Line) → Reached first line text before hand
      → ((l : List ℕ) → Holds hand l → after ≡ record before { summary = with_lines kind before.summary (ended l more) }) → ((l : List ℕ) → Holds hand l → Holds next (open_line l more)) → Reached first line (text ++ more) after next
  reached_more first line text more before after hand next r scan holds =
      let here = open_line line text in
      let lines = with_lines kind first.summary (ended line text) in (
        scan here r.1
            ∙ ap (λ (s : Scan). record s { summary = with_lines kind s.summary (ended here more) }) r.0
            ∙ ap (λ (s : Summary). record first { summary = s }) (sym (lines_more first.summary (ended line text) (ended here more)) ∙ ap (with_lines kind first.summary) (sym (ended_more line text more))),
        subst (Holds next) (sym (open_more line text more)) (holds here r.1),
      )

  -- what was read of a log so far, in so many turns
  pub record SoFar (first scan : Scan) (hand : Line) (old new : Option (List ℕ)) (turns : ℕ) : Type 0 where
    pub text : List ℕ
    pub reached : Reached first [] text scan hand
    pub consumed : Consumes old new text
    pub within : turns ≤ length text

  pub so_far_more : (first before after : Scan) (hand next : Line) (old mid new : Option (List ℕ)) (chunk : List ℕ) (turns : ℕ) → SoFar first before hand old mid turns → Consumes mid new chunk → 1 ≤ length chunk
      → ((l : List ℕ) → Holds hand l → after ≡ record before { summary = with_lines kind before.summary (ended l chunk) }) → ((l : List ℕ) → Holds hand l → Holds next (open_line l chunk)) → SoFar first after next old new (turns + 1)
  so_far_more first before after hand next old mid new chunk turns so consumed some scan holds = record {
    text = so.text ++ chunk;
    reached = reached_more first [] so.text chunk before after hand next so.reached scan holds;
    consumed = Consumes-trans old mid new so.text chunk so.consumed consumed;
    within = omega (arith, length-append so.text chunk);
  }

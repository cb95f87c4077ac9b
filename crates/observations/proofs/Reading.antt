-- One byte more of a source, and its end. Assumes nothing.
use Rattle.std.proofs.Common.{◌≡◌, ℕ, true, false, List, [], ◌∷◌, ◌++◌, length, Some, None, Option, is_some, unwrap_or, sym, refl, ap, ◌∙◌, subst, append_assoc, append-nil}
use Rattle.std.specs.List.{flat_map, AllByRecursion}
use Rattle.std.proofs.lemmas.List.{flat_map_more, length_push}
use Rattle.std.proofs.ByRecursion.{All-push}
use Rattle.std.proofs.lemmas.Bool.{both_ways}
use Rattle.observations.specs.declared.line.Line.{Line}
use Rattle.observations.specs.declared.source.RefusedLine.{RefusedLine}
use Rattle.observations.specs.declared.source.Source.{Source}
use Rattle.observations.specs.Reader.{Has}
use Rattle.observations.specs.Figures.{stopped, Counts}
use Rattle.observations.specs.Source.{Plain, with_newline, Cut, some_byte, InHand, SoFar, Kept, Answered, LineEnded, last_line, Finished}

cut_byte : (text : List ℕ) (lines : List (List ℕ)) (rest : List ℕ) (b : ℕ) → Plain b → Cut text lines rest → Cut (text ++ b ∷ []) lines (rest ++ b ∷ [])
cut_byte text lines rest b plain c = record {
  is = ap (λ t. t ++ b ∷ []) c.is ∙ append_assoc (flat_map with_newline lines) rest (b ∷ []);
  plain_lines = c.plain_lines;
  plain_rest = All-push Plain rest b c.plain_rest plain;
}

cut_newline : (text : List ℕ) (lines : List (List ℕ)) (rest : List ℕ) → Cut text lines rest → Cut (text ++ 10 ∷ []) (lines ++ rest ∷ []) []
cut_newline text lines rest c = record {
  is = ap (λ t. t ++ 10 ∷ []) c.is ∙ append_assoc (flat_map with_newline lines) rest (10 ∷ []) ∙ flat_map_more with_newline [] lines rest ∙ sym (append-nil (flat_map with_newline (lines ++ rest ∷ [])));
  plain_lines = All-push (AllByRecursion Plain) lines rest c.plain_lines c.plain_rest;
  plain_rest = tt;
}

some_push : (rest : List ℕ) (b : ℕ) → some_byte (rest ++ b ∷ []) ≡ true
some_push [] b = refl
some_push (x ∷ rest) b = refl

-- a line in hand that has begun is that of a rest with a byte
in_hand : (rest : List ℕ) (hand : Option Line) → some_byte rest ≡ true → is_some hand ≡ true → ((line : Line) → hand ≡ Some line → Has rest line) → InHand rest hand
in_hand rest None some begun h = let wrong : false ≡ true = begun in cc
in_hand rest (Some line) some begun h = (some, h line refl)

pub read_byte : (text : List ℕ) (b : ℕ) (before after : Source) → Plain b → (h : SoFar text before) → Kept before after → ((line : Line) → after.line ≡ Some line → Has (h.rest ++ b ∷ []) line) → SoFar (text ++ b ∷ []) after
read_byte text b before after plain h kept has = record {
  lines = h.lines;
  rest = h.rest ++ b ∷ [];
  cut = cut_byte text h.lines h.rest b plain h.cut;
  counts = subst (Counts h.lines) (sym kept.figures) h.counts;
  ended = kept.ended ∙ h.ended;
  line = in_hand (h.rest ++ b ∷ []) after.line (some_push h.rest b) kept.begun has;
}

pub answered_byte : (text : List ℕ) (b : ℕ) (before : Source) → Plain b → SoFar text before → Answered text b None
answered_byte text b before plain h = record { lines = h.lines; rest = h.rest; cut = h.cut; at_newline = λ e. absurd (plain e); elsewhere = λ _. refl }

-- what stands of the rest, begun or not
pub has_rest : (rest : List ℕ) (hand : Option Line) (fresh line : Line) → InHand rest hand → Has [] fresh → line ≡ unwrap_or hand fresh → Has rest line
has_rest rest None fresh line none h e = subst (λ r. Has r line) (sym none) (subst (Has []) (sym e) h)
has_rest rest (Some begun) fresh line p h e = subst (Has rest) (sym e) p.1

pub read_newline : (text : List ℕ) (b : ℕ) (line : Line) (before middle after : Source) (r : Option RefusedLine) → b ≡ 10 → (h : SoFar text before) → Has h.rest line → middle ≡ record before { line = None } → LineEnded h.lines h.rest line middle after r → SoFar (text ++ b ∷ []) after
read_newline text b line before middle after r e h has m l = record {
  lines = h.lines ++ h.rest ∷ [];
  rest = [];
  cut = subst (λ x. Cut (text ++ x ∷ []) (h.lines ++ h.rest ∷ []) []) (sym e) (cut_newline text h.lines h.rest h.cut);
  counts = l.counts (subst (Counts h.lines) (sym (ap (λ s. s.figures) m)) h.counts) has;
  ended = l.ended (ap (λ s. s.ended) m ∙ h.ended) ∙ ap stopped (sym (length_push h.lines h.rest));
  line = subst (InHand []) (sym (l.line ∙ ap (λ s. s.line) m)) refl;
}

pub answered_newline : (text : List ℕ) (b : ℕ) (line : Line) (before middle after : Source) (r : Option RefusedLine) → b ≡ 10 → (h : SoFar text before) → Has h.rest line → middle ≡ record before { line = None } → LineEnded h.lines h.rest line middle after r → Answered text b r
answered_newline text b line before middle after r e h has m l = record { lines = h.lines; rest = h.rest; cut = h.cut; at_newline = λ _. l.told (ap (λ s. s.ended) m ∙ h.ended) has; elsewhere = λ plain. absurd (plain e) }

last_some : (rest : List ℕ) → some_byte rest ≡ true → last_line rest ≡ rest ∷ []
last_some [] e = absurd (both_ways false refl e)
last_some (b ∷ rest) e = refl

none_some : (rest : List ℕ) → some_byte rest ≡ true → rest ≡ [] → ⊥
none_some rest e n = both_ways (some_byte rest) (ap some_byte n) e

pub finish_line : (text : List ℕ) (line : Line) (before middle after : Source) (r : Option RefusedLine) → before.line ≡ Some line → (h : SoFar text before) → middle ≡ record before { line = None } → LineEnded h.lines h.rest line middle after r → Finished text after r
finish_line text line before middle after r e h m l =
    let hand : InHand h.rest (Some line) = subst (InHand h.rest) e h.line in
    let last = last_some h.rest hand.0 in
    record {
      lines = h.lines;
      rest = h.rest;
      cut = h.cut;
      counts = subst (λ ms. Counts (h.lines ++ ms) after.figures) (sym last) (l.counts (subst (Counts h.lines) (sym (ap (λ s. s.figures) m)) h.counts) hand.1);
      ended = l.ended (ap (λ s. s.ended) m ∙ h.ended) ∙ ap stopped (sym (length_push h.lines h.rest)) ∙ ap (λ ms. stopped (length (h.lines ++ ms))) (sym last);
      no_rest = λ n. absurd (none_some h.rest hand.0 n);
      last = λ _. l.told (ap (λ s. s.ended) m ∙ h.ended) hand.1;
    }

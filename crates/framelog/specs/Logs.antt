-- The lines of a log's text, and what a scan is after them. Which text a file has, no contract can say.
use Rattle.std.specs.Prelude.{◌≡◌, ℕ, false, if◌then◌else◌, List, [], ◌∷◌, ◌++◌, ◌⊎◌, ◌==◌}
use Rattle.tally.specs.Kind.{Kind}
use Rattle.frame_logs.specs.declared.summary.Summary.{Summary}
use Rattle.framelog.specs.declared.scan.Scan.{Scan}
use Rattle.framelog.specs.Lines.{with_line}

-- the lines that a newline ends, of a text that goes on from a line so far
abbrev pub ended : List ℕ → List ℕ → List (List ℕ)
ended line [] = []
ended line (b ∷ text) = if b == 10 then line ∷ ended [] text else ended (line ++ b ∷ []) text

-- the line that is left open
abbrev pub open_line : List ℕ → List ℕ → List ℕ
open_line line [] = line
open_line line (b ∷ text) = if b == 10 then open_line [] text else open_line (line ++ b ∷ []) text

module _ {V : Type 0} (kind : Kind V) where
  -- lines, in their order
  abbrev pub with_lines : Summary → List (List ℕ) → Summary
  with_lines s [] = s
  with_lines s (line ∷ lines) = with_lines (with_line kind s line) lines

  -- the scan after all of a log: the end of its text ends the last line too
  abbrev pub read_to_end : Scan → List ℕ → Scan
  read_to_end scan text = record scan { summary = with_line kind (with_lines scan.summary (ended [] text)) (open_line [] text) }

  -- after a log of which no more than a text could be read
  abbrev pub passed_over : Scan → List ℕ → Scan
  passed_over scan text = record scan { summary = with_lines scan.summary (ended [] text); all_read = false }

  -- what came of a log of which a text was read
  abbrev pub Came : Scan → List ℕ → Scan → Type 0
  Came before text after = (after ≡ read_to_end before text) ⊎ (after ≡ passed_over before text)

  -- what came of a log that has a text: all of it was read, or a part
  abbrev pub CameOf : Scan → List ℕ → Scan → Type 0
  CameOf before text after = (after ≡ read_to_end before text) ⊎ ((part : List ℕ) × (rest : List ℕ) × (text ≡ part ++ rest) × (after ≡ passed_over before part))

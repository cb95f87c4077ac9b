-- The figures of lines, and of more lines, by the laws of a tally kind alone. Assumes nothing.
use Rattle.std.proofs.Common.{◌≡◌, ℕ, ◌+◌, List, [], ◌∷◌, ◌++◌, map, length, Ok, Err, Result, sym, refl, ap, ◌∙◌, ap₂, arith, length-append}
use Rattle.std.proofs.lemmas.List.{map-append}
use Rattle.std.proofs.lemmas.List.Elements.{filter_map-append}
use Rattle.std.specs.Result.{result_ok, result_err}
use Rattle.tally.specs.Kind.{joins}
use Rattle.tally.specs.Totals.{joins_parts}
use Rattle.tally.specs.Queues.{queues, queues_lawful, observed_queue}
use Rattle.tally.specs.declared.queues.banded.Queues.{Queues}
use Rattle.observations.specs.declared.line.LineFault.{LineFault}
use Rattle.observations.specs.declared.figures.Figures.{Figures}
use Rattle.observations.specs.Line.{Says}
use Rattle.observations.specs.Figures.{stopped, Answers, lengths, faults, Counts}

right_unit : (x : Queues) → queues.join x queues.empty ≡ x
right_unit x = queues_lawful.comm x queues.empty ∙ queues_lawful.unit x

-- one observed length more
abbrev Observed : Figures → ℕ → Figures → Type 0
Observed before n after = (after.tally ≡ queues.join before.tally (observed_queue n)) × (after.taken ≡ stopped (before.taken + 1)) × (after.refused ≡ before.refused)

-- one refused line more
abbrev Refused : Figures → Figures → Type 0
Refused before after = (after.tally ≡ before.tally) × (after.taken ≡ before.taken) × (after.refused ≡ stopped (before.refused + 1))

-- both figures as one
abbrev Together : Figures → Figures → Figures → Type 0
Together one other both = (both.tally ≡ queues.join one.tally other.tally) × (both.taken ≡ stopped (one.taken + other.taken)) × (both.refused ≡ stopped (one.refused + other.refused))

answers_append : (ls ms : List (List ℕ)) (xs ys : List (Result ℕ LineFault)) → Answers ls xs → Answers ms ys → Answers (ls ++ ms) (xs ++ ys)
answers_append [] ms [] ys a b = b
answers_append [] ms (x ∷ xs) ys a b = absurd a
answers_append (l ∷ ls) ms [] ys a b = absurd a
answers_append (l ∷ ls) ms (x ∷ xs) ys a b = (a.0, answers_append ls ms xs ys a.1 b)

-- the tally of some lengths
abbrev tally_of : List ℕ → Queues
tally_of ns = joins queues (map observed_queue ns)

tally_append : (ms ns : List ℕ) → tally_of (ms ++ ns) ≡ queues.join (tally_of ms) (tally_of ns)
tally_append ms ns = ap (joins queues) (map-append observed_queue ms ns) ∙ joins_parts queues_lawful (map observed_queue ms) (map observed_queue ns)

pub counts_together : (ls ms : List (List ℕ)) (f g h : Figures) → Counts ls f → Counts ms g → Together f g h → Counts (ls ++ ms) h
counts_together ls ms f g h p q t =
    let xs = p.answers in
    let ys = q.answers in
    let m = ap length (filter_map-append result_ok xs ys) ∙ length-append (lengths xs) (lengths ys) in
    let n = ap length (filter_map-append result_err xs ys) ∙ length-append (faults xs) (faults ys) in
    record {
      answers = xs ++ ys;
      said = answers_append ls ms xs ys p.said q.said;
      tally = t.0 ∙ ap₂ queues.join p.tally q.tally ∙ sym (tally_append (lengths xs) (lengths ys)) ∙ ap tally_of (sym (filter_map-append result_ok xs ys));
      taken = omega (arith, t.1, p.taken, q.taken, m);
      refused = omega (arith, t.2, p.refused, q.refused, n);
    }

-- one line more
pub count_taken : (lines : List (List ℕ)) (line : List ℕ) (n : ℕ) (f h : Figures) → Counts lines f → Says line (Ok n) → Observed f n h → Counts (lines ++ line ∷ []) h
count_taken lines line n f h p s o =
    let one : Figures = record { tally = observed_queue n; taken = 1; refused = 0 } in
    counts_together lines (line ∷ []) f one h p
    (record { answers = Ok n ∷ []; said = (s, tt); tally = sym (right_unit (observed_queue n)); taken = refl; refused = refl })
    (o.0, o.1, omega (arith, o.2, p.refused))

pub count_refused : (lines : List (List ℕ)) (line : List ℕ) (fault : LineFault) (f h : Figures) → Counts lines f → Says line (Err fault) → Refused f h → Counts (lines ++ line ∷ []) h
count_refused lines line fault f h p s o =
    let one : Figures = record { tally = queues.empty; taken = 0; refused = 1 } in
    counts_together lines (line ∷ []) f one h p
    (record { answers = Err fault ∷ []; said = (s, tt); tally = refl; taken = refl; refused = refl })
    (o.0 ∙ sym (right_unit f.tally), omega (arith, o.1, p.taken), o.2)

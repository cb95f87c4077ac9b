-- Counting and raising over a whole run.
use Rattle.std.specs.Prelude.{◌≡◌, ℕ, ◌+◌, ◌^◌, ◌<◌, ◌≤◌, Bool, true, false, cond, if◌then◌else◌, ◌&&◌, List, [], ◌∷◌, length, Some, None, Option, ◌==◌, slice_index, slice_index_or, slice_set, refl}
use Rattle.std.proofs.Common.{ap, ◌∙◌, arith, length-set}
use Rattle.std.proofs.lemmas.List.{get_or-set_other}
use Rattle.std.proofs.lemmas.Bool.Decides.{nat_tests}
use Rattle.std.proofs.lemmas.Grind.{common_steps}
use Rattle.frame_logs.specs.declared.counts.Clocks.{Clocks}
use Rattle.frame_logs.specs.Counts.{stop, one_more, one_more_between, count_between, highest}

-- how often a place comes in a run
abbrev pub times : ℕ → List ℕ → ℕ
times i [] = 0
times i (j ∷ run) = (if i == j then 1 else 0) + times i run

-- a row after a run of counts
abbrev pub counted : List ℕ → List ℕ → List ℕ
counted row [] = row
counted row (j ∷ run) = counted (one_more row j) run

-- from small numbers on, each count is what it was and how often its place came; only the largest number may stand for more
abbrev pub CountsStand : Type 0
CountsStand = (run row : List ℕ) (i : ℕ) → i < length row → slice_index row i < 2 ^ 64 → slice_index (counted row run) i ≡ stop (slice_index row i + times i run)

-- a change at one index, seen at any
changed_here : {A : Type 0} (xs : List A) (d : A) (f : A → A) (i j : ℕ) → i < length xs → slice_index_or (slice_set xs j (f (slice_index_or xs j d))) i d ≡ cond (i == j) (f (slice_index_or xs i d)) (slice_index_or xs i d)
changed_here xs d f i j l = grind (arith, common_steps, get_or-set_other, nat_tests)

one_here : (row : List ℕ) (i j : ℕ) → i < length row → slice_index (one_more row j) i ≡ cond (i == j) (stop (slice_index row i + 1)) (slice_index row i)
one_here row i j l = changed_here row 0 (λ n. stop (n + 1)) i j l

step_here : (t : Bool) (n m k : ℕ) → n < 2 ^ 64 → m ≡ cond t (stop (n + 1)) n → (m < 2 ^ 64) × (stop (m + k) ≡ stop (n + (cond t 1 0 + k)))
step_here true n m k h e = (omega arith, omega arith)
step_here false n m k h e = (omega arith, omega arith)

pub counts_stand : CountsStand
counts_stand [] row i l h = omega arith
counts_stand (j ∷ run) row i l h =
    let s = step_here (i == j) (slice_index row i) (slice_index (one_more row j) i) (times i run) h (one_here row i j l) in
    counts_stand run (one_more row j) i (omega (arith, length-set row j (stop (slice_index row j + 1)))) s.0 ∙ s.1

-- how often a pair of places comes in a run
abbrev pub times_between : ℕ → ℕ → List (ℕ × ℕ) → ℕ
times_between i j [] = 0
times_between i j (p ∷ run) = (if i == p.0 && j == p.1 then 1 else 0) + times_between i j run

-- rows after a run of counts
abbrev pub counted_between : List (List ℕ) → List (ℕ × ℕ) → List (List ℕ)
counted_between rows [] = rows
counted_between rows (p ∷ run) = counted_between (one_more_between rows p.0 p.1) run

-- the same of rows: each count is what it was and how often its pair of places came
abbrev pub PairsStand : Type 0
PairsStand = (run : List (ℕ × ℕ)) (rows : List (List ℕ)) (i j : ℕ) → i < length rows → j < length (slice_index_or rows i []) → count_between rows i j < 2 ^ 64
    → count_between (counted_between rows run) i j ≡ stop (count_between rows i j + times_between i j run)

row_here : (rows : List (List ℕ)) (i a b : ℕ) → i < length rows → slice_index_or (one_more_between rows a b) i [] ≡ cond (i == a) (one_more (slice_index_or rows i []) b) (slice_index_or rows i [])
row_here rows i a b l = changed_here rows [] (λ row. one_more row b) i a l

as_long : (t : Bool) (row : List ℕ) (b : ℕ) → length (cond t (one_more row b) row) ≡ length row
as_long true row b = length-set row b (stop (slice_index row b + 1))
as_long false row b = refl

one_in_row : (t : Bool) (row : List ℕ) (j b : ℕ) → j < length row → slice_index (cond t (one_more row b) row) j ≡ cond (t && j == b) (stop (slice_index row j + 1)) (slice_index row j)
one_in_row true row j b m = one_here row j b m
one_in_row false row j b m = refl

pub pairs_stand : PairsStand
pairs_stand [] rows i j l m h = omega arith
pairs_stand (p ∷ run) rows i j l m h =
    let row = slice_index_or rows i [] in
    let e = row_here rows i p.0 p.1 l in
    let k : length (slice_index_or (one_more_between rows p.0 p.1) i []) ≡ length row = ap length e ∙ as_long (i == p.0) row p.1 in
    let c = ap (λ r. slice_index r j) e ∙ one_in_row (i == p.0) row j p.1 m in
    let s = step_here (i == p.0 && j == p.1) (count_between rows i j) (count_between (one_more_between rows p.0 p.1) i j) (times_between i j run) h c in
    pairs_stand run (one_more_between rows p.0 p.1) i j (omega (arith, length-set rows p.0 (one_more (slice_index_or rows p.0 []) p.1))) (omega arith) s.0 ∙ s.1

-- the highest clocks of a run
abbrev pub highest_of : Option Clocks → List Clocks → Option Clocks
highest_of known [] = known
highest_of known (c ∷ run) = highest_of (Some (highest known c)) run

-- no clock is above another pair's
abbrev pub Under : Clocks → Option Clocks → Type 0
Under c None = ⊥
Under c (Some k) = (c.source ≤ k.source) × (c.destination ≤ k.destination)

-- from any clocks on, those of a frame are not above the highest after it and any run behind it
abbrev pub HighestStands : Type 0
HighestStands = (known : Option Clocks) (c : Clocks) (run : List Clocks) → Under c (highest_of (Some (highest known c)) run)

raised_above : (k c : Clocks) (run : List Clocks) → Under k (Some c) → Under k (highest_of (Some c) run)
raised_above k c [] u = u
raised_above k c (d ∷ run) u = raised_above k (highest (Some c) d) run (omega arith, omega arith)

above_known : (known : Option Clocks) (c : Clocks) → Under c (Some (highest known c))
above_known None c = (omega arith, omega arith)
above_known (Some k) c = (omega arith, omega arith)

pub highest_stands : HighestStands
highest_stands known c run = raised_above c (highest known c) run (above_known known c)

use Rattle.std.proofs.Common.{◌≡◌, ℕ, List, [], ◌++◌, length, sym, refl, subst, append_assoc, append-nil, arith}
use Rattle.observations.specs.declared.source.Source.{Source}
use Rattle.observations.specs.Source.{SoFar}
use Rattle.survey.proofs.intake.read_all.Goals as goal
use Rattle.survey.proofs.intake.read_all.Goals.{in-Ok+in_ok-take_chunk-in-Ok, in-Err}

-- what was read so far, with what a step read more
abbrev Read : List ℕ → Source → Type 0
Read text source = (more : List ℕ) × SoFar (text ++ more) source

read_more : (text bytes : List ℕ) (before after : Source) → Read text before → ((t : List ℕ) → SoFar t before → SoFar (t ++ bytes) after) → Read text after
read_more text bytes before after r step = (r.0 ++ bytes, subst (λ t. SoFar t after) (append_assoc text r.0 bytes) (step (text ++ r.0) r.1))

pub loop-init : goal.loop-init
loop-init g c = (refl, λ text h. ([], subst (λ t. SoFar t c.args.source.now) (sym (append-nil text)) h))

pub loop-preserved : goal.loop-preserved
loop-preserved g c =
    let same : length c.read.new.buf ≡ 65536 = omega arith in (
      same,
      λ text h.
          let r = c.loop.invariant.1 text h in
          elim c.match-read.branch [
            | in-Ok+in_ok-take_chunk-in-Ok w ↦ subst (Read text) (sym w.source-is) (read_more text _ c.loop.source _ r (w.in_ok-take_chunk-in-Ok.ensures))
            | in-Err w ↦ subst (Read text) (sym w.source-is) r
          ],
    )

pub returns-in-Ok-eq0 : goal.returns-in-Ok-eq0
returns-in-Ok-eq0 g c = λ text h.
    let r = c.loop.invariant.1 text h in
    (r.0, c.in_ok-end-in-Ok-eq0.ensures (text ++ r.0) r.1)

pub returns-in-Err-2 : goal.returns-in-Err-2
returns-in-Err-2 g c = λ text h.
    let r = c.loop.invariant.1 text h in
    (r.0, (r.1, c.ended.ensures))

pub returns : goal.returns
returns g c = λ text h.
    let r = c.loop.invariant.1 text h in
    (r.0, (r.1, c.ended-2.ensures))

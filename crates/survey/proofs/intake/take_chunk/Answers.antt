use Rattle.std.proofs.Common.{[], ◌∷◌, ◌++◌, take, sym, ap, ◌∙◌, subst, append_assoc}
use Rattle.std.proofs.lemmas.List.{take_more, take_all}
use Rattle.observations.specs.Source.{SoFar}
use Rattle.survey.proofs.intake.take_chunk.Goals as goal

pub loop-byte-preserved : goal.loop-byte-preserved
loop-byte-preserved c = λ text h.
    let bytes = c.args.bytes.now in
    let i = c.loop-byte.byte-index in
    let next = append_assoc text (take i bytes) (_ ∷ []) ∙ ap (λ b. text ++ b) (sym (take_more bytes i 0 c.loop-byte-test.true)) in
    subst (λ t. SoFar t c.take.new.self) next (c.take.ensures (text ++ take i bytes) (c.loop-byte.invariant text h)).0

pub returns : goal.returns
returns c = λ text h. subst (λ b. SoFar (text ++ b) c.loop-byte.source) (take_all c.loop-byte.byte-index c.args.bytes.now c.loop-byte-test.false) (c.loop-byte.invariant text h)

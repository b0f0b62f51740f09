use Rattle.std.proofs.Common.{◌<◌, length, ap, arith}
use Rattle.std.proofs.lemmas.List.{length-map}
use Rattle.mmsyntax.specs.ProofWords.{step_of}
use Rattle.mmsyntax.proofs.ProofSteps.{float_seen, hyp_seen, cite_seen}
use Rattle.mmsyntax.proofs.proof.Proof.step.Goals as goal

pub returns-in-0 : goal.returns-in-0
returns-in-0 c =
    let cited = c.self.inside.cited.items in
    let words = c.self.inside.words.items in
    let lt : c.args.i < length words = omega (arith, ap length c.self.view_is, length-map words (step_of cited)) in
    rw (← c.self.view_is) (float_seen cited words c.args.i c.index-word.result.now lt c.index-word.ensures c.in-0.is)

pub returns-in-1 : goal.returns-in-1
returns-in-1 c =
    let cited = c.self.inside.cited.items in
    let words = c.self.inside.words.items in
    let lt : c.args.i < length words = omega (arith, ap length c.self.view_is, length-map words (step_of cited)) in
    rw (← c.self.view_is) (hyp_seen cited words c.args.i c.index-word.result.now lt c.index-word.ensures c.in-1.is)

pub returns-in_default : goal.returns-in_default
returns-in_default c =
    let cited = c.self.inside.cited.items in
    let words = c.self.inside.words.items in
    let lt : c.args.i < length words = omega (arith, ap length c.self.view_is, length-map words (step_of cited)) in
    rw c.as_slice.ensures (rw (← c.self.view_is) (
    cite_seen cited words c.args.i c.index-word.result.now c.index.result.now c.self.invariant lt c.index-word.ensures
    (λ e. absurd (omega arith)) (λ e. absurd (omega arith)) c.index.ensures
    ))

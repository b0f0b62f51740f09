use Rattle.std.proofs.Common.{get_or, arith}
use Rattle.std.proofs.lemmas.List.{get_or_default}
use Rattle.mmsyntax.proofs.ProofSteps.{float_seen, hyp_seen, cite_placed}
use Rattle.mmsyntax.proofs.word_steps.WordSteps.step.Goals as goal

pub returns-in-0-clause-step : goal.returns-in-0-clause-step
returns-in-0-clause-step c =
    let words = c.args.self.now.words.now in
    float_seen c.args.self.now.cited.now words c.args.i (get_or words c.args.i 0) c.requires
    (get_or_default words c.args.i 0 (get_or words c.args.i 0) c.requires) c.in-0.is

pub returns-in-1-clause-step : goal.returns-in-1-clause-step
returns-in-1-clause-step c =
    let words = c.args.self.now.words.now in
    hyp_seen c.args.self.now.cited.now words c.args.i (get_or words c.args.i 0) c.requires
    (get_or_default words c.args.i 0 (get_or words c.args.i 0) c.requires) c.in-1.is

pub returns-in_default-clause-step : goal.returns-in_default-clause-step
returns-in_default-clause-step c =
    let words = c.args.self.now.words.now in
    cite_placed c.args.self.now.cited.now words c.args.i (get_or words c.args.i 0) c.requires
    (get_or_default words c.args.i 0 (get_or words c.args.i 0) c.requires) (λ e. absurd (omega arith)) (λ e. absurd (omega arith))

use Rattle.std.proofs.Common.{refl, sym, ◌∙◌, arith}
use Rattle.std.proofs.lemmas.Result.{IfOk-from_err}
use Rattle.mmframes.specs.Substitution.{replacement}
use Rattle.derivation.specs.Derivation.{AreApart}
use Rattle.stepcheck.proofs.Apart.{within_one_more}
use Rattle.stepcheck.proofs.pairs.pairs_fit.Goals as goal

pub loop-pair-preserved : goal.loop-pair-preserved
loop-pair-preserved c =
    let s = c.args.substitution.now in
    within_one_more (λ q. AreApart c.args.thesis.now.pairs (replacement s q.0) (replacement s q.1)) c.args.asked.now c.loop-pair.pair-index
    (0, 0) c.loop-pair-test.true c.loop-pair.invariant (c.pair_fits.ensures.0 c.if-not-pair_fits.false)

pub returns-then-not-pair_fits : goal.returns-then-not-pair_fits
returns-then-not-pair_fits c =
    (λ t. cc, λ all. sym c.if-not-pair_fits.true ∙ c.pair_fits.ensures.1 (all c.loop-pair.pair-index (0, 0) c.loop-pair-test.true))

pub returns-in_err-found : goal.returns-in_err-found
returns-in_err-found c = IfOk-from_err _ _ c.from_residual.ensures.0

pub loop-pair-init : goal.loop-pair-init
loop-pair-init c = λ k d low high. absurd (omega (arith, high))

pub returns : goal.returns
returns c = (λ t k d l. c.loop-pair.invariant k d (omega arith) (let past = c.loop-pair-test.false in omega (arith, past, l)), λ all. refl)

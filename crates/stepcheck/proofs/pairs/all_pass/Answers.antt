use Rattle.std.proofs.Common.{sym, ◌∙◌}
use Rattle.std.specs.List.{All}
use Rattle.derivation.specs.Lookups.{PassesAbove}
use Rattle.stepcheck.proofs.Apart.{within_one_more}
use Rattle.stepcheck.proofs.pairs.all_pass.Goals as goal

pub returns-then-not-passes_each : goal.returns-then-not-passes_each
returns-then-not-passes_each c =
    (λ t. cc, λ all. sym c.if-not-passes_each.true ∙ c.passes_each.ensures.1 (all c.loop-u.u-index 0 c.loop-u-test.true))

pub loop-u-preserved : goal.loop-u-preserved
loop-u-preserved c =
    within_one_more (λ u. All (λ v. PassesAbove c.args.thesis.now.pairs u v) c.args.vs.now) c.args.us.now c.loop-u.u-index 0
    c.loop-u-test.true c.loop-u.invariant (c.passes_each.ensures.0 c.if-not-passes_each.false)

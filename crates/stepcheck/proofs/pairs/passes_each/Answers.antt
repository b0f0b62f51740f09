use Rattle.std.proofs.Common.{arith, refl}
use Rattle.derivation.specs.Lookups.{PassesAbove}
use Rattle.stepcheck.proofs.Apart.{within_one_more}
use Rattle.stepcheck.proofs.pairs.passes_each.Goals as goal

pub loop-v-init : goal.loop-v-init
loop-v-init c = λ k d low high. absurd (omega (arith, high))

pub loop-v-preserved : goal.loop-v-preserved
loop-v-preserved c =
    within_one_more (PassesAbove c.args.thesis.now.pairs c.args.low) c.args.others.now c.loop-v.v-index 0 c.loop-v-test.true
    c.loop-v.invariant c.in-Some.ensures

pub returns-in-None : goal.returns-in-None
returns-in-None c = (λ t. cc, λ all. absurd (c.in-None.ensures (all c.loop-v.v-index 0 c.loop-v-test.true)))

pub returns : goal.returns
returns c = (λ t k d l. c.loop-v.invariant k d (omega arith) (let past = c.loop-v-test.false in omega arith), λ all. refl)

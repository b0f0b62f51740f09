use Rattle.std.proofs.Common.{◌<◌, length, refl, sym, ◌∙◌, arith}
use Rattle.std.proofs.lemmas.List.{drop_all}
use Rattle.stepcheck.proofs.Typed.{next_typed}
use Rattle.stepcheck.proofs.node.have_types.Goals as goal

pub loop-i-preserved : goal.loop-i-preserved
loop-i-preserved c =
    let kept = c.loop-i.invariant in
    let many : c.loop-i.i < length c.args.args.now = omega (arith, c.requires, c.loop-i-test.true) in
    let next = next_typed c.args.prelude.now c.args.floats.now c.args.args.now c.loop-i.i c.at.result.now c.loop-i-test.true many
    c.at.ensures in
    let typed = c.has_type.ensures.0 c.if-not-has_type.false in
    (λ rest. kept.0 (next.1 (typed, rest)), λ all. (next.0 (kept.1 all)).1)

pub returns-then-not-has_type : goal.returns-then-not-has_type
returns-then-not-has_type c =
    let many : c.loop-i.i < length c.args.args.now = omega (arith, c.requires, c.loop-i-test.true) in
    let next = next_typed c.args.prelude.now c.args.floats.now c.args.args.now c.loop-i.i c.at.result.now c.loop-i-test.true many
    c.at.ensures in
    (λ t. cc, λ all. sym c.if-not-has_type.true ∙ c.has_type.ensures.1 (next.0 (c.loop-i.invariant.1 all)).0)

pub returns : goal.returns
returns c =
    (λ t. c.loop-i.invariant.0 (rw (drop_all c.loop-i.i c.args.floats.now c.loop-i-test.false) tt), λ all. refl)

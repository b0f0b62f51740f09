-- What is left to show of `put_nodes`.
use Rattle.std.proofs.Common.{◌<◌, ◌+◌, length, drop, sym, subst, arith}
use Rattle.mmsyntax.specs.ProofWords.{seen_step}
use Rattle.sourcewriting.specs.Leaving.{Lead, StepTakes}
use Rattle.sourcewriting.proofs.Leading.{led_on}
use Rattle.sourcewriting.proofs.Named.{refuted}
use Rattle.sourcewriting.proofs.Stacks.{if_any}
use Rattle.sourcewriting.proofs.listing.put_nodes.Goals as goal

pub returns-then-not-branch-clause-taken : goal.returns-then-not-branch-clause-taken
returns-then-not-branch-clause-taken g c = λ hs premises all.
    c.in_ok-take_step.ensures.taken hs premises (c.loop-place.invariant.taken hs premises all)

pub returns-then-not-branch-clause-one : goal.returns-then-not-branch-clause-one
returns-then-not-branch-clause-one g c = λ few one.
    let within : c.loop-place.place < length c.args.steps.now = omega (arith, c.loop-place-test.true, c.len-place-end.ensures.len) in
    let lead = led_on (StepTakes (g.D.Declared.scope c.args.declared.now) c.args.names.now (length c.args.premises.now))
    (length c.loop-place.stack.items) c.args.steps.now c.loop-place.place (seen_step c.step-step.result) within
    c.step-step.ensures (c.loop-place.invariant.one one) in
    absurd
    (refuted c.in_ok-take_step.field-0 (c.in_ok-take_step.ensures.there lead.0 lead.1 lead.2 lead.3).0 c.if-not-branch.true)

pub loop-place-preserved : goal.loop-place-preserved
loop-place-preserved g c =
    let s = g.D.Declared.scope c.args.declared.now in
    let m = c.args.names.now in
    let premises = length c.args.premises.now in
    let rest = drop (c.loop-place.place + 1) c.args.steps.now in
    record {
      taken = λ hs same all. c.in_ok-take_step.ensures.taken hs same (c.loop-place.invariant.taken hs same all);
      one = λ one.
          let lead = led_on (StepTakes s m premises) (length c.loop-place.stack.items) c.args.steps.now c.loop-place.place
          (seen_step c.step-step.result) (omega (arith, c.loop-place-test.true, c.len-place-end.ensures.len))
          c.step-step.ensures (c.loop-place.invariant.one one) in
          let done = c.in_ok-take_step.ensures.there lead.0 lead.1 lead.2 lead.3 in
          subst (λ h. Lead (StepTakes s m premises) h rest 1) (sym done.1) lead.4;
      few =
          let was = c.loop-place.invariant.few in
          let more = c.in_ok-take_step.ensures.few in
          record { words = omega (arith, was.words, more.words); nodes = omega (arith, was.nodes, more.nodes) };
      nodes = λ hs same all can sound.
          let was = c.loop-place.invariant.nodes hs same all can sound in
          c.in_ok-take_step.ensures.nodes hs same (c.loop-place.invariant.taken hs same all) can was.0 was.1;
    }

pub returns-clause-taken : goal.returns-clause-taken
returns-clause-taken g c = λ hs same all. if_any _ (c.loop-place.invariant.taken hs same all)

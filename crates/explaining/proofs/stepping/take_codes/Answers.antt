-- What is left to show of `take_codes`.
use Rattle.std.proofs.Common.{◌≡◌, ◌+◌, List, None, map, take, drop, get_or, sym, subst as transport, arith}
use Rattle.std.proofs.lemmas.Result.{IfOk-weaker}
use Rattle.std.proofs.lemmas.List.{map_more, take_all}
use Rattle.mmsyntax.proofs.Distinct.{any_at}
use Rattle.source.specs.declared.letters.Code.{Code}
use Rattle.source.specs.Letters.{is_absent}
use Rattle.source.specs.Proofs.{Step, step_of, made}
use Rattle.source.specs.Views.{seen_words}
use Rattle.verifying.specs.Verifies.{entry}
use Rattle.explaining.specs.declared.stepping.Turn.{Turn}
use Rattle.explaining.specs.declared.stepping.Turn.TheVariants as turn
use Rattle.explaining.specs.Shown.{seen_assertion, seen_stack, Turns, Reached, IsFaultFound}
use Rattle.explaining.proofs.Stepped.{mapped_around, reached_more, none_made, reached_fails}
use Rattle.explaining.proofs.stepping.take_codes.Goals as goal

pub returns-in-Absent : goal.returns-in-Absent
returns-in-Absent g c = λ there.
    let earlier = take c.args.place (g.D.Declared.scope c.args.declared.now).assertions in
    let x = seen_assertion c.args.listed.now.theorem.now in
    let labels = seen_words c.args.listed.now.labels.now in
    let codes = c.args.codes.now in
    let i = c.loop-code.code-index in
    let before = c.loop-code.invariant.reached there in
    let old = seen_stack c.loop-code.stack in
    let new = seen_stack c.take_code.new.stack in
    let step = step_of labels (get_or codes i _) in
    let turned : Turns earlier x step old new turn.Absent =
    transport (λ (t : Turn). Turns earlier x step old new t) c.in-Absent.is
    (c.in_ok-take_code.ensures (any_at is_absent codes i _ there c.loop-code-test.true)) in
    transport (λ (ss : List Step). made (entry earlier x) earlier x.active ss ≡ None)
    (sym (mapped_around (step_of labels) codes i _ c.loop-code-test.true))
    (none_made earlier x (map (step_of labels) (take i codes)) old c.loop-code.step before step c.count-step.result
    (c.count-step.ensures.counted labels) turned (map (step_of labels) (drop (i + 1) codes)))

pub returns-in-Fails : goal.returns-in-Fails
returns-in-Fails g c = λ there.
    let earlier = take c.args.place (g.D.Declared.scope c.args.declared.now).assertions in
    let x = seen_assertion c.args.listed.now.theorem.now in
    let labels = seen_words c.args.listed.now.labels.now in
    let codes = c.args.codes.now in
    let i = c.loop-code.code-index in
    let before = c.loop-code.invariant.reached there in
    let old = seen_stack c.loop-code.stack in
    let new = seen_stack c.take_code.new.stack in
    let step = step_of labels (get_or codes i _) in
    let turned : Turns earlier x step old new (turn.Fails c.in-Fails.finding) =
    transport (λ (t : Turn). Turns earlier x step old new t) c.in-Fails.is
    (c.in_ok-take_code.ensures (any_at is_absent codes i _ there c.loop-code-test.true)) in
    transport (λ (ss : List Step). IsFaultFound earlier x ss c.count-step.result c.in-Fails.finding)
    (sym (mapped_around (step_of labels) codes i _ c.loop-code-test.true))
    (reached_fails earlier x (map (step_of labels) (take i codes)) old c.loop-code.step before step c.count-step.result
    (c.count-step.ensures.counted labels) c.in-Fails.finding turned (map (step_of labels) (drop (i + 1) codes)))

pub loop-code-preserved : goal.loop-code-preserved
loop-code-preserved g c = record {
  few = omega (arith, c.loop-code.invariant.few, c.count-step.ensures.few);
  reached = λ there.
      let earlier = take c.args.place (g.D.Declared.scope c.args.declared.now).assertions in
      let x = seen_assertion c.args.listed.now.theorem.now in
      let labels = seen_words c.args.listed.now.labels.now in
      let codes = c.args.codes.now in
      let i = c.loop-code.code-index in
      let before = c.loop-code.invariant.reached there in
      let old = seen_stack c.loop-code.stack in
      let new = seen_stack c.take_code.new.stack in
      let step = step_of labels (get_or codes i _) in
      let turned : Turns earlier x step old new turn.Passes =
      transport (λ (t : Turn). Turns earlier x step old new t) c.in-Passes.is
      (c.in_ok-take_code.ensures (any_at is_absent codes i _ there c.loop-code-test.true)) in
      transport (λ (ss : List Step). Reached earlier x ss new c.count-step.result)
      (sym (map_more (step_of labels) codes i _ c.loop-code-test.true))
      (reached_more earlier x (map (step_of labels) (take i codes)) old c.loop-code.step before step c.count-step.result
      (c.count-step.ensures.counted labels) c.take_code.new.stack turned);
}

pub returns : goal.returns
returns g c = λ there.
    let earlier = take c.args.place (g.D.Declared.scope c.args.declared.now).assertions in
    let x = seen_assertion c.args.listed.now.theorem.now in
    let labels = seen_words c.args.listed.now.labels.now in
    let codes = c.args.codes.now in
    let whole : Reached earlier x (map (step_of labels) codes) (seen_stack c.loop-code.stack) c.loop-code.step =
    transport (λ (cs : List Code). Reached earlier x (map (step_of labels) cs) (seen_stack c.loop-code.stack) c.loop-code.step)
    (take_all c.loop-code.code-index codes c.loop-code-test.false) (c.loop-code.invariant.reached there) in
    IfOk-weaker c.end.result _ _ (λ o told. told earlier (map (step_of labels) codes) whole) c.end.ensures

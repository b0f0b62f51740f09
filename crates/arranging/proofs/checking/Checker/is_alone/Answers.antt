use Rattle.std.proofs.Common.{◌∙◌, [], ◌∷◌, cond, sym, ap}
use Rattle.std.specs.List.{flat_map}
use Rattle.std.proofs.lemmas.List.{take_all}
use Rattle.arranging.proofs.Known.{label_in, labels_between, alone_now, alone_still, not_other}
use Rattle.arranging.proofs.checking.Checker.is_alone.Goals as goal
use Rattle.arranging.proofs.checking.Checker.is_alone.Goals.{in-Assertion+else-is_found+else-ne, in_default-kind}

pub loop-item-preserved : goal.loop-item-preserved
loop-item-preserved c =
    let items = c.in-Some.items.now in
    let i = c.loop-item.item-index in
    let label = c.args.label.now in
    elim c.match-item.branch [
      | in-Assertion+else-is_found+else-ne w ↦
          alone_now items i _ c.loop-item-test.true label c.loop-item.is_found c.loop-item.invariant w.in-Assertion.other
          w.if-is_found.false w.in-Assertion.is (not_other w.in-Assertion.other.now label w.if-ne.ensures)
          ∙ ap (λ b. cond b (label ∷ []) []) (sym w.is_found-is)
      | in_default-kind w ↦
          alone_still items i _ c.loop-item-test.true label c.loop-item.is_found c.loop-item.invariant w.in_default-kind.not-Assertion
          ∙ ap (λ b. cond b (label ∷ []) []) (sym w.is_found-is)
    ]

pub returns : goal.returns
returns c = λ e source old known found.
    let items = c.in-Some.items.now in
    let label = c.args.label.now in
    let all = take_all c.loop-item.item-index items c.loop-item-test.false in
    labels_between source 0 c.args.self.now.items.now old c.args.first c.args.end known.known.found
    ∙ (ap (λ fs. flat_map label_in fs) (sym c.in-Some.ensures.lookup.0.2 ∙ sym all)
    ∙ (c.loop-item.invariant ∙ ap (λ b. cond b (label ∷ []) []) found))

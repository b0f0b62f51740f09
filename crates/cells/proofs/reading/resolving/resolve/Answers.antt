use Rattle.std.proofs.Common.{◌≡◌, ◌<◌, ◌∙◌, ◌++◌, [], ◌∷◌, List, length, get_or, sym, ap, subst, arith}
use Rattle.std.proofs.lemmas.List.{length-map}
use Rattle.cells.specs.Lookups.{StoresStep}
use Rattle.mmsyntax.specs.declared.statement.Step.{Step}
use Rattle.mmsyntax.specs.ProofWords.{step_of, step_in}
use Rattle.library.specs.Library.{Setting}
use Rattle.ranges.specs.Ranges.{Has}
use Rattle.cells.specs.Footprints.{IsOfLook}
use Rattle.cells.specs.Words.{AreFound}
use Rattle.cells.proofs.Asking.{item_has}
use Rattle.cells.proofs.Along.{where_trans}
use Rattle.cells.proofs.Sights.{looks_trans, setting_kept}
use Rattle.cells.proofs.Settings.{same_slots}
use Rattle.cells.proofs.Resolving.{resolve_on, resolve_fails, resolve_all, written_back}
use Rattle.cells.proofs.reading.resolving.resolve.Goals as goal

pub returns-in_err-stored-clause-looks : goal.returns-in_err-stored-clause-looks
returns-in_err-stored-clause-looks g c = looks_trans _ _ _ c.loop-i.invariant.0 c.stored_step.ensures.looks

pub returns-in_default-clause-looks : goal.returns-in_default-clause-looks
returns-in_default-clause-looks g c = looks_trans _ _ _ c.loop-i.invariant.0 c.stored_step.ensures.looks

pub returns-in_default-clause-ok : goal.returns-in_default-clause-ok
returns-in_default-clause-ok g c =
    let s = g.C.Cells.sight c.stored_step.new.cells in
    let x = step_in c.word_steps-over.result.cited.now c.step-step.result in
    let here : x ≡ get_or c.args.steps.now c.loop-i.i x =
    c.step-step.ensures.step ∙ ap (λ (ss : List Step). get_or ss c.loop-i.i x) c.word_steps-over.ensures in
    let within : c.loop-i.i < length c.args.steps.now = let long = ap (λ (ss : List Step). length ss) c.word_steps-over.ensures in
    omega (arith, long, length-map c.word_steps-over.result.words.now (step_of c.word_steps-over.result.cited.now)) in
    resolve_fails s c.loop-i.i c.args.steps.now x (subst (StoresStep s x) c.in_default.is c.in_ok-stored.ensures.ok) here within

pub returns-in_err-push-clause-looks : goal.returns-in_err-push-clause-looks
returns-in_err-push-clause-looks g c = looks_trans _ _ _ c.loop-i.invariant.0 c.stored_step.ensures.looks

pub loop-i-preserved : goal.loop-i-preserved
loop-i-preserved g c =
    let old = g.C.Cells.sight c.args.cells.now in
    let between = g.C.Cells.sight c.loop-i.cells in
    let s = g.C.Cells.sight c.stored_step.new.cells in
    let x = step_in c.word_steps-over.result.cited.now c.step-step.result in
    let here : x ≡ get_or c.args.steps.now c.loop-i.i x =
    c.step-step.ensures.step ∙ ap (λ (ss : List Step). get_or ss c.loop-i.i x) c.word_steps-over.ensures in
    let within : c.loop-i.i < length c.args.steps.now = let long = ap (λ (ss : List Step). length ss) c.word_steps-over.ensures in
    omega (arith, long, length-map c.word_steps-over.result.words.now (step_of c.word_steps-over.result.cited.now)) in
    let labels = c.word_steps-over.result.cited.now in
    let back = written_back c.loop-i.found.items c.stored_step.new.found c.loop-i.found.len c.loop-i.found.ok.0
    (c.stored_step.ensures.found.0 ∙ sym c.loop-i.invariant.3.0) in
    let looks = looks_trans _ _ _ c.loop-i.invariant.0 c.stored_step.ensures.looks in
    let push : c.push.new.self.items ≡ c.loop-i.kept.items ++ c.in-Some.stored ∷ [] = c.in_ok-push.ensures.items in (
      looks,
      resolve_on between s old.setting.slots c.loop-i.i c.args.steps.now c.loop-i.kept.items c.push.new.self.items x c.in-Some.stored
          (sym (same_slots old s looks)) c.stored_step.ensures.looks c.loop-i.invariant.1
          (subst (StoresStep s x) c.in-Some.is c.in_ok-stored.ensures.ok) here within push,
      where_trans c.loop-i.invariant.2 c.loop-i.invariant.0 c.stored_step.ensures.looks.onward c.stored_step.ensures.reads
          (λ st k at. (
            at.0,
            subst (λ (y : Step). Has y c.args.steps.now) (sym here ∙ at.1) (item_has c.args.steps.now c.loop-i.i x within),
            subst (λ (q : Setting). IsOfLook q.slots at.0 st k) (setting_kept c.loop-i.invariant.0.onward) at.2,
          )),
      subst (AreFound s labels) (sym back) c.stored_step.ensures.found,
    )

pub returns-clause-ok : goal.returns-clause-ok
returns-clause-ok g c =
    let old = g.C.Cells.sight c.args.cells.now in
    let s = g.C.Cells.sight c.loop-i.cells in
    let steps = c.args.steps.now in
    let n : length steps ≡ c.loop-i.i = let long = ap (λ (ss : List Step). length ss) c.word_steps-over.ensures in
    omega (
      arith,
      long,
      length-map c.word_steps-over.result.words.now (step_of c.word_steps-over.result.cited.now),
      c.loop-i-test.false,
      c.loop-i.auto.i-end,
    ) in
    resolve_all s old.setting.slots c.loop-i.i steps c.loop-i.kept.items (sym (same_slots old s c.loop-i.invariant.0)) n
    c.loop-i.invariant.1

pub returns-in_err-stored-clause-reads : goal.returns-in_err-stored-clause-reads
returns-in_err-stored-clause-reads g c =
    let x = step_in c.word_steps-over.result.cited.now c.step-step.result in
    let here : x ≡ get_or c.args.steps.now c.loop-i.i x =
    c.step-step.ensures.step ∙ ap (λ (ss : List Step). get_or ss c.loop-i.i x) c.word_steps-over.ensures in
    let within : c.loop-i.i < length c.args.steps.now = let long = ap (λ (ss : List Step). length ss) c.word_steps-over.ensures in
    omega (arith, long, length-map c.word_steps-over.result.words.now (step_of c.word_steps-over.result.cited.now)) in
    where_trans c.loop-i.invariant.2 c.loop-i.invariant.0 c.stored_step.ensures.looks.onward c.stored_step.ensures.reads
    (λ st k at. (
      at.0,
      subst (λ (y : Step). Has y c.args.steps.now) (sym here ∙ at.1) (item_has c.args.steps.now c.loop-i.i x within),
      subst (λ (q : Setting). IsOfLook q.slots at.0 st k) (setting_kept c.loop-i.invariant.0.onward) at.2,
    ))

pub returns-in_default-clause-reads : goal.returns-in_default-clause-reads
returns-in_default-clause-reads g c =
    let x = step_in c.word_steps-over.result.cited.now c.step-step.result in
    let here : x ≡ get_or c.args.steps.now c.loop-i.i x =
    c.step-step.ensures.step ∙ ap (λ (ss : List Step). get_or ss c.loop-i.i x) c.word_steps-over.ensures in
    let within : c.loop-i.i < length c.args.steps.now = let long = ap (λ (ss : List Step). length ss) c.word_steps-over.ensures in
    omega (arith, long, length-map c.word_steps-over.result.words.now (step_of c.word_steps-over.result.cited.now)) in
    where_trans c.loop-i.invariant.2 c.loop-i.invariant.0 c.stored_step.ensures.looks.onward c.stored_step.ensures.reads
    (λ st k at. (
      at.0,
      subst (λ (y : Step). Has y c.args.steps.now) (sym here ∙ at.1) (item_has c.args.steps.now c.loop-i.i x within),
      subst (λ (q : Setting). IsOfLook q.slots at.0 st k) (setting_kept c.loop-i.invariant.0.onward) at.2,
    ))

pub returns-in_err-push-clause-reads : goal.returns-in_err-push-clause-reads
returns-in_err-push-clause-reads g c =
    let x = step_in c.word_steps-over.result.cited.now c.step-step.result in
    let here : x ≡ get_or c.args.steps.now c.loop-i.i x =
    c.step-step.ensures.step ∙ ap (λ (ss : List Step). get_or ss c.loop-i.i x) c.word_steps-over.ensures in
    let within : c.loop-i.i < length c.args.steps.now = let long = ap (λ (ss : List Step). length ss) c.word_steps-over.ensures in
    omega (arith, long, length-map c.word_steps-over.result.words.now (step_of c.word_steps-over.result.cited.now)) in
    where_trans c.loop-i.invariant.2 c.loop-i.invariant.0 c.stored_step.ensures.looks.onward c.stored_step.ensures.reads
    (λ st k at. (
      at.0,
      subst (λ (y : Step). Has y c.args.steps.now) (sym here ∙ at.1) (item_has c.args.steps.now c.loop-i.i x within),
      subst (λ (q : Setting). IsOfLook q.slots at.0 st k) (setting_kept c.loop-i.invariant.0.onward) at.2,
    ))

use Rattle.std.proofs.Common.{[], ◌∷◌, ◌++◌, map, take, refl, sym, ap, subst, ◌∙◌}
use Rattle.std.proofs.lemmas.List.{map_more, take_all}
use Rattle.mmsyntax.specs.declared.statement.Step.TheVariants.{Cite}
use Rattle.catalog.specs.Citers.{AreEntered}
use Rattle.catalog.proofs.Covering.{keeps-all, keeps-on, none-entered, entered-push, entered-listed}
use Rattle.catalog.proofs.citers.enter_citer.Goals as goal

pub loop-label-init : goal.loop-label-init
loop-label-init c =
    let cs = c.args.citers.now in
    record { long = refl; ascending = c.requires.ascending; kept = keeps-all cs; entered = none-entered cs c.args.entries.now c.args.place }

pub loop-label-preserved : goal.loop-label-preserved
loop-label-preserved c =
    let x = c.loop-label in
    let cs = x.citers in
    let new = c.enter_label.new.citers in
    let es = c.args.entries.now in
    let q = c.args.place in
    let labels = c.cited-labels.result.now in
    let w = c.label-item.result in
    let one = c.in_ok-enter_label.ensures in
    let front = map Cite (take x.label-index labels) in
    let more = map_more Cite labels x.label-index w c.loop-label-test.true ∙ ap (λ l. front ++ Cite l ∷ []) (sym c.label-item.is) in
    let last = subst (λ l. AreEntered new es (Cite l ∷ []) q) c.as_slice.ensures one.entered in
    record {
      long = c.enter_label.auto.citers ∙ x.invariant.long;
      ascending = one.ascending;
      kept = keeps-on c.args.citers.now cs new x.invariant.kept one.kept;
      entered = subst (λ ts. AreEntered new es ts q) (sym more) (entered-push cs new es front (Cite w) q one.kept x.invariant.entered last);
    }

pub returns-in_err-enter_label-clause-kept : goal.returns-in_err-enter_label-clause-kept
returns-in_err-enter_label-clause-kept c =
    keeps-on c.args.citers.now c.loop-label.citers c.enter_label.new.citers c.loop-label.invariant.kept c.in_err-enter_label.ensures.kept

pub returns-clause-entered : goal.returns-clause-entered
returns-clause-entered c =
    let labels = c.cited-labels.result.now in
    let cs = c.loop-label.citers in
    let es = c.args.entries.now in
    let q = c.args.place in
    let whole = ap (map Cite) (take_all c.loop-label.label-index labels c.loop-label-test.false) in
    entered-listed cs es labels c.args.steps.now q c.cited-labels.ensures
    (subst (λ ts. AreEntered cs es ts q) whole c.loop-label.invariant.entered)

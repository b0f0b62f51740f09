-- What is left to show of `raise_next`.
use Rattle.std.proofs.Common.{◌≡◌, ◌∙◌, ap, sym, subst}
use Rattle.std.specs.Prelude.{Contains}
use Rattle.std.proofs.lemmas.Result.{on_ok_weaker}
use Rattle.source.specs.Views.{seen_words}
use Rattle.expanding.specs.Called.{new_labels}
use Rattle.expanding.specs.Bearing.{bearers_for, AreAmong, AreBacked}
use Rattle.expanding.proofs.Raising.{next_backed}
use Rattle.expanding.proofs.bearers.raise_next.Goals as goal

pub returns-in-Some-clause-raised : goal.returns-in-Some-clause-raised
returns-in-Some-clause-raised c = λ rs renamed.
    let same : seen_words c.as_slice.result.now ≡ new_labels rs c.args.label.now =
    ap seen_words c.as_slice.ensures.value ∙ c.in-Some.ensures rs renamed in
    on_ok_weaker c.raise_all.result
    (λ each w h. subst (λ b. AreAmong b (bearers_for c.raise_all.new.called w)) c.bearers_for-bearers.ensures
    (each w (subst (λ l. Contains l w) (sym same) h))) c.raise_all.ensures.raised

pub returns-in-Some-clause-backed : goal.returns-in-Some-clause-backed
returns-in-Some-clause-backed c = λ rs test renamed all.
    let x = c.args.label.now in
    let same : seen_words c.as_slice.result.now ≡ new_labels rs x = ap seen_words c.as_slice.ensures.value ∙ c.in-Some.ensures rs renamed in
    c.raise_all.ensures.backed rs test all
    (λ w h. subst (AreBacked rs test w) (sym c.bearers_for-bearers.ensures)
    (next_backed rs test x w (bearers_for c.args.called.now x) (subst (λ l. Contains l w) same h) (all x)))

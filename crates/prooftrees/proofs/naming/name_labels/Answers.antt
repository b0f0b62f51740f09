-- What is left to show of `name_labels`.
use Rattle.std.proofs.Common.{◌<◌, ◌+◌, ◌∙◌, [], ℕ, List, length, take, sym, subst}
use Rattle.std.proofs.lemmas.List.{length-map, get_or-map}
use Rattle.std.specs.Borrow.{Bor}
use Rattle.source.specs.Views.{seen_words}
use Rattle.taking.specs.declared.named.Named.{Named}
use Rattle.prooftrees.specs.Names.{IsKnown, IsNamed}
use Rattle.prooftrees.proofs.Named.{NamesOf, next_named}
use Rattle.prooftrees.proofs.naming.name_labels.Goals as goal

pub loop-label-preserved : goal.loop-label-preserved
loop-label-preserved g c =
    let m = g.P.StepPlaces.places c.args.places.now in
    let labels = c.args.labels.now in
    let i = c.loop-label.label-index in
    let named = c.loop-label.named.items in
    let n = c.in_ok-name_label.field-0 in
    let kept = c.loop-label.invariant in
    let long : i < length (seen_words labels) =
    subst (λ (n : ℕ). i < n) (sym (length-map labels (λ (w : Bor (List ℕ)). w.now))) c.loop-label-test.true in
    let here = get_or-map (λ (w : Bor (List ℕ)). w.now) labels i _ [] c.loop-label-test.true in
    record {
      right = c.name_label.ensures.right;
      assertions = c.name_label.ensures.assertions ∙ kept.assertions;
      same = λ w. c.name_label.ensures.same w ∙ kept.same w;
      names = λ earlier active frames enough known.
          subst (λ (ns : List Named). NamesOf m earlier active (take (i + 1) (seen_words labels)) ns) (sym c.in_ok-push.ensures.items)
          (next_named m earlier active (seen_words labels) i named n long
          (subst (λ (w : List ℕ). IsNamed m earlier active w n) (sym here)
          (c.in_ok-name_label.ensures.named earlier active (λ w. kept.same w ∙ frames w) enough
          (subst (IsKnown earlier active) here (known i [] long)))) (kept.names earlier active frames enough known));
    }

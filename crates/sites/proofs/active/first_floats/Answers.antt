-- What is left to show of `first_floats`.
use Rattle.std.proofs.Common.{◌≡◌, ◌∙◌, ◌+◌, ◌++◌, ◌∷◌, [], List, take, sym, ap, subst}
use Rattle.std.proofs.lemmas.List.{map_more}
use Rattle.source.specs.Scopes.{Hypothesis}
use Rattle.source.specs.Views.{seen_hypothesis}
use Rattle.sites.specs.Given.{given_hypotheses}
use Rattle.sites.specs.Actives.{FindsFloats}
use Rattle.sites.proofs.active.first_floats.Goals as goal

pub loop-hypothesis-preserved : goal.loop-hypothesis-preserved
loop-hypothesis-preserved c =
    let hs = c.args.hypotheses.now in
    let i = c.loop-hypothesis.hypothesis-index in
    let x = c.hypothesis-item.result in
    let front : List Hypothesis = given_hypotheses (take i hs) in
    let more : given_hypotheses (take (i + 1) hs) ≡ front ++ seen_hypothesis x ∷ [] =
    map_more seen_hypothesis hs i x c.loop-hypothesis-test.true ∙ ap (λ y. front ++ seen_hypothesis y ∷ []) (sym c.hypothesis-item.is) in
    subst (λ (ks : List Hypothesis). FindsFloats c.note_float.new.floats c.args.sites.now.floats ks) (sym more)
    (c.in_ok-note_float.ensures front c.loop-hypothesis.invariant)

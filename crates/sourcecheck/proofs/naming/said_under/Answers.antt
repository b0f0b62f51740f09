-- What is left to show of `said_under`.
use Rattle.std.proofs.Common.{◌≡◌, Some, ap, subst, ◌∙◌, arith}
use Rattle.std.specs.Prelude.{Option}
use Rattle.std.proofs.Common.{ℕ}
use Rattle.std.specs.Borrow.{Bor}
use Rattle.std.proofs.lemmas.List.{length-map}
use Rattle.std.proofs.lemmas.Option.{slice_get_within}
use Rattle.source.specs.Scopes.{Hypothesis}
use Rattle.source.specs.declared.contents.HypothesisWords.{HypothesisWords}
use Rattle.source.specs.Views.{seen_hypothesis, seen_hypotheses}
use Rattle.sourcecheck.specs.Shown.{IsPlaceUnder}
use Rattle.sourcecheck.proofs.Labelled.{found_anywhere, read_at}
use Rattle.sourcecheck.proofs.naming.said_under.Goals as goal

pub index-requires : goal.index-requires
index-requires c =
    let items = c.args.active.now.items in
    let hs = seen_hypotheses items in
    let there : IsPlaceUnder hs c.args.label.now (Some c.in-Some.place) =
    subst (λ (o : Option ℕ). IsPlaceUnder hs c.args.label.now o) c.in-Some.is c.in_ok-place.ensures.place in
    let lt = slice_get_within hs c.in-Some.place there.0 there.1 in
    let long = length-map items (λ (h : Bor HypothesisWords). seen_hypothesis h.now) in
    omega (arith, lt, long)

pub returns-in_ok-said_by-in-Some-clause-said : goal.returns-in_ok-said_by-in-Some-clause-said
returns-in_ok-said_by-in-Some-clause-said c = λ more.
    let items = c.args.active.now.items in
    let hs = seen_hypotheses items in
    let there : IsPlaceUnder hs c.args.label.now (Some c.in-Some.place) =
    subst (λ (o : Option ℕ). IsPlaceUnder hs c.args.label.now o) c.in-Some.is c.in_ok-place.ensures.place in
    let is : there.0 ≡ seen_hypothesis c.index.result.now.now =
    read_at items c.in-Some.place there.0 c.index.result.now there.1 c.index.ensures in (
      seen_hypothesis c.index.result.now.now,
      found_anywhere hs c.args.label.now there.0 c.in-Some.place c.requires.agree there.1 there.2 ∙ ap (λ (h : Hypothesis). Some h) is,
      c.in_ok-said_by-in-Some.ensures.said more,
    )

pub returns-in-None-clause-said : goal.returns-in-None-clause-said
returns-in-None-clause-said c = λ more.
    subst (λ (o : Option ℕ). IsPlaceUnder (seen_hypotheses c.args.active.now.items) c.args.label.now o) c.in-None.is
    c.in_ok-place.ensures.place

-- What is left to show of `premises`.
use Rattle.std.proofs.Common.{◌≡◌, ◌∙◌, ◌+◌, List, drop, sym, ap}
use Rattle.std.proofs.lemmas.Result.{IfOk-from_err}
use Rattle.mmsyntax.specs.declared.statement.Symbol.{Symbol}
use Rattle.taking.proofs.Symbols.{following, none_yet}
use Rattle.taking.specs.Says.{premises}
use Rattle.sites.specs.Given.{given_hypotheses}
use Rattle.std.specs.Prelude.{Some, None}
use Rattle.source.specs.Views.{seen_words, seen_hypothesis}
use Rattle.taking.specs.Says.{each}
use Rattle.gathering.proofs.Premised.{left, one_premise, passes_float, no_premise, all_premises}
use Rattle.gathering.proofs.saying.premises.Goals as goal
use Rattle.gathering.proofs.saying.premises.Goals.{in-Premise+in_ok-symbols+in-Some+in_ok-push, in_default}

pub loop-hypothesis-init : goal.loop-hypothesis-init
loop-hypothesis-init g c =
    let whole = each (each (g.P.SymbolPlaces.placed c.args.places.now)) (premises (given_hypotheses c.args.hypotheses.now)) in
    none_yet whole ∙ ap (λ xs. following xs whole) (sym c.new-made.ensures.items)

pub loop-hypothesis-preserved : goal.loop-hypothesis-preserved
loop-hypothesis-preserved g c =
    let l = c.loop-hypothesis in
    let f = g.P.SymbolPlaces.placed c.args.places.now in
    let hs = c.args.hypotheses.now in
    let rest = drop (l.hypothesis-index + 1) hs in
    elim c.match-hypothesis.branch [
      | in-Premise+in_ok-symbols+in-Some+in_ok-push w ↦
          let words = w.in-Premise.words.items in
          let has : each f (seen_words words) ≡ Some w.in-Some.symbols =
          ap (λ ws. each f (seen_words ws)) (sym w.as_slice.ensures.value) ∙ sym w.in_ok-symbols.ensures ∙ w.in-Some.is in
          let is = ap seen_hypothesis (sym c.hypothesis-item.is ∙ w.in-Premise.is) in
          l.invariant
          ∙ one_premise f hs l.made.items l.hypothesis-index _ c.loop-hypothesis-test.true _ (seen_words words) w.in-Some.symbols is has
          ∙ ap (λ (xs : List (List Symbol)). left f xs rest) (sym (ap (λ v. v.items) w.made-is ∙ w.in_ok-push.ensures.items))
      | in_default w ↦
          let is = ap seen_hypothesis (sym c.hypothesis-item.is ∙ w.in_default.is) in
          l.invariant
          ∙ passes_float f hs l.made.items l.hypothesis-index _ c.loop-hypothesis-test.true _ _ _ is
          ∙ ap (λ (xs : List (List Symbol)). left f xs rest) (sym (ap (λ v. v.items) w.made-is))
    ]

pub returns-in_err-symbols : goal.returns-in_err-symbols
returns-in_err-symbols g c = IfOk-from_err _ _ c.from_residual.ensures.0

pub returns-in_err-push : goal.returns-in_err-push
returns-in_err-push g c = IfOk-from_err _ _ c.from_residual-in_err-push.ensures.0

pub returns-in_default-2 : goal.returns-in_default-2
returns-in_default-2 g c =
    let l = c.loop-hypothesis in
    let f = g.P.SymbolPlaces.placed c.args.places.now in
    let words = c.in-Premise.words.items in
    let none : each f (seen_words words) ≡ None =
    ap (λ ws. each f (seen_words ws)) (sym c.as_slice.ensures.value) ∙ sym c.in_ok-symbols.ensures ∙ c.in_default-2.is in
    let is = ap seen_hypothesis (sym c.hypothesis-item.is ∙ c.in-Premise.is) in
    sym (l.invariant ∙ no_premise f c.args.hypotheses.now l.made.items l.hypothesis-index _ c.loop-hypothesis-test.true _
    (seen_words words) is none)

pub returns : goal.returns
returns g c =
    let l = c.loop-hypothesis in
    ap (λ x. Some x) c.from_vec.ensures
    ∙ sym (l.invariant ∙ all_premises (g.P.SymbolPlaces.placed c.args.places.now) c.args.hypotheses.now l.made.items l.hypothesis-index
    c.loop-hypothesis-test.false)

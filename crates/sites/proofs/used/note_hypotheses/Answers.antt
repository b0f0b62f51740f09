-- What is left to show of `note_hypotheses`.
use Rattle.std.proofs.Common.{◌≡◌, ◌∙◌, ◌+◌, ◌++◌, ◌∷◌, [], List, take, get_or, sym, ap}
use Rattle.std.specs.Prelude.{◌||◌}
use Rattle.std.specs.List.{list_any}
use Rattle.std.proofs.lemmas.List.{map_more}
use Rattle.source.specs.Scopes.{Hypothesis}
use Rattle.source.specs.Views.{has, seen_hypothesis}
use Rattle.sites.specs.Given.{given_hypotheses}
use Rattle.taking.specs.Names.{is_symbol_of_hypothesis}
use Rattle.sites.specs.Used.{noted, typed_by, typed}
use Rattle.sites.proofs.Noted.{any_more, typed_more}
use Rattle.sites.proofs.used.note_hypotheses.Goals as goal

pub loop-hypothesis-preserved : goal.loop-hypothesis-preserved
loop-hypothesis-preserved c =
    let hs = c.args.hypotheses.now in
    let i = c.loop-hypothesis.hypothesis-index in
    let x = c.hypothesis-item.result in
    let h : Hypothesis = seen_hypothesis x in
    let front : List Hypothesis = given_hypotheses (take i hs) in
    let more : given_hypotheses (take (i + 1) hs) ≡ front ++ h ∷ [] =
    map_more seen_hypothesis hs i x c.loop-hypothesis-test.true ∙ ap (λ y. front ++ seen_hypothesis y ∷ []) (sym c.hypothesis-item.is) in
    record {
      symbols = λ w.
          let b = has c.args.used.now.symbols w in
          c.in_ok-note_hypothesis.ensures.symbols w
          ∙ ap (λ t. t || is_symbol_of_hypothesis w h) (c.loop-hypothesis.invariant.symbols w)
          ∙ sym (any_more (is_symbol_of_hypothesis w) b front h)
          ∙ ap (λ (ks : List Hypothesis). b || list_any (is_symbol_of_hypothesis w) ks) (sym more);
      floats = λ w.
          let o = noted c.args.used.now w in
          c.in_ok-note_hypothesis.ensures.floats w
          ∙ ap (λ p. typed_by w p h) (c.loop-hypothesis.invariant.floats w)
          ∙ sym (typed_more w o front h)
          ∙ ap (λ (ks : List Hypothesis). typed w o ks) (sym more);
    }

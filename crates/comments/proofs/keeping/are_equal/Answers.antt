-- What is left to show of `are_equal`.
use Rattle.std.proofs.Common.{false, ◌≡◌, ◌∙◌, ◌<◌, ◌++◌, ◌∷◌, [], ℕ, List, Vec, Global, length, take, sym, ap, rules, arith}
use Rattle.std.proofs.lemmas.List.{map_more}
use Rattle.std.specs.Str.{bytes_eq}
use Rattle.std.proofs.lemmas.Slice.Eq.{bytes_eq-Decides}
use Rattle.comments.specs.Walks.{seen_texts}
use Rattle.comments.proofs.Stayed.{at_place}
use Rattle.comments.proofs.keeping.are_equal.Goals as goal

abbrev items_of : Vec ℕ Global → List ℕ
items_of v = v.items

pub loop-i-preserved : goal.loop-i-preserved
loop-i-preserved c =
    let ones = c.args.ones.now in
    let others = c.args.others.now in
    let i = c.loop-i.i in
    let x = c.index-ones-i.result in
    let y = c.index-others-i.result in
    let texts : c.as_slice.result.now ≡ c.as_slice-in-loop-i.result.now = search rules in
    let same : x.items ≡ y.items = sym c.as_slice.ensures.value ∙ texts ∙ c.as_slice-in-loop-i.ensures.value in
    let one : i < length ones = c.loop-i-test.true in
    let other : i < length others = omega arith in
    map_more items_of ones i x one
    ∙ ap (λ (v : Vec ℕ Global). seen_texts (take i ones) ++ v.items ∷ []) (sym c.index-ones-i.is)
    ∙ ap (λ (us : List (List ℕ)). us ++ x.items ∷ []) c.loop-i.invariant
    ∙ ap (λ (w : List ℕ). seen_texts (take i others) ++ w ∷ []) same
    ∙ ap (λ (v : Vec ℕ Global). seen_texts (take i others) ++ v.items ∷ []) c.index-others-i.is
    ∙ sym (map_more items_of others i y other)

pub returns-then-ne : goal.returns-then-ne
returns-then-ne c =
    let ones = c.args.ones.now in
    let others = c.args.others.now in
    let i = c.loop-i.i in
    let x = c.index-ones-i.result in
    let y = c.index-others-i.result in
    let one : i < length ones = omega arith in
    let other : i < length others = omega arith in
    let test : bytes_eq c.as_slice.result.now c.as_slice-in-loop-i.result.now ≡ false = search rules in (
      λ yes. absurd cc,
      λ e.
          let items : x.items ≡ y.items =
          ap items_of c.index-ones-i.is ∙ at_place ones others i x y one other e ∙ sym (ap items_of c.index-others-i.is) in
          let same : c.as_slice.result.now ≡ c.as_slice-in-loop-i.result.now =
          c.as_slice.ensures.value ∙ items ∙ sym c.as_slice-in-loop-i.ensures.value in
          let is = (bytes_eq-Decides c.as_slice.result.now c.as_slice-in-loop-i.result.now).1 same in
          absurd cc,
    )

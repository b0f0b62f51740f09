-- What is left to show of `filled_with`.
use Rattle.std.proofs.Common.{◌≡◌, ℕ, List, length, map, ap, sym, ◌∙◌, rules}
use Rattle.std.specs.List.{zip}
use Rattle.std.specs.Borrow.{Bor}
use Rattle.std.specs.Global.{Vec}
use Rattle.std.specs.Vec.Iter.{into_iter_items, into_iter_len}
use Rattle.std.specs.Iterator.Adapters.{zip_first, zip_second}
use Rattle.std.proofs.lemmas.Iterator.{YieldsList-from_zip}
use Rattle.std.proofs.lemmas.Iterator.Adapters.{YieldsList-from_vec}
use Rattle.std.proofs.lemmas.Iterator.Consumers.{YieldsList-end}
use Rattle.source.specs.declared.contents.HypothesisWords.{HypothesisWords}
use Rattle.source.specs.Scopes.{Hypothesis}
use Rattle.source.specs.Views.{seen_hypothesis}
use Rattle.verifying.specs.Citations.{Expression}
use Rattle.explaining.specs.Shown.{seen_expression}
use Rattle.explaining.proofs.Lists.{zip_mapped, map_same}
use Rattle.explaining.proofs.filling.filled_with.Goals as goal

pub returns : goal.returns
returns c =
    let hs = c.args.hypotheses.items in
    let es = c.args.expressions.items in
    let iterator = c.into_iter-hypothesis-iterator.result in
    let firsts : into_iter_items (zip_first iterator) ≡ hs = search rules in
    let first_long : into_iter_len (zip_first iterator) ≡ length hs = search rules in
    let seconds : into_iter_items (zip_second iterator) ≡ es = search rules in
    let second_long : into_iter_len (zip_second iterator) ≡ length es = search rules in
    let end = YieldsList-end (YieldsList-from_zip (YieldsList-from_vec hs firsts first_long) (YieldsList-from_vec es seconds second_long))
    c.loop-hypothesis.yielded c.loop-hypothesis.hypothesis-iterator c.loop-hypothesis.yielded_by c.next.result c.next.new.self c.in-None.is
    c.next.ensures.steps in
    let all : c.loop-hypothesis.yielded ≡ zip hs es = sym (map_same c.loop-hypothesis.yielded) ∙ end.0 in
    c.loop-hypothesis.invariant
    ∙ ap (map {B = Hypothesis × Expression} (λ (p : HypothesisWords × Vec (Bor (List ℕ))). (seen_hypothesis p.0, seen_expression p.1))) all
    ∙ zip_mapped seen_hypothesis seen_expression hs es

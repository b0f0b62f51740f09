-- What is left to show of `with_labels`: a theorem more, and that all were gone through.
use Rattle.std.proofs.Common.{◌≡◌, ◌∙◌, ◌++◌, ◌∷◌, [], map, length, ap, arith, rules, length-append}
use Rattle.std.specs.List.{zip}
use Rattle.std.specs.Slice.Iter.{iter_rest}
use Rattle.std.specs.Iterator.Adapters.{zip_first, zip_second}
use Rattle.std.proofs.lemmas.List.{length-map, take_all}
use Rattle.std.proofs.lemmas.Slice.Zip.{zip_turn, zip_end, length-zip}
use Rattle.source.specs.Views.{seen_pairs}
use Rattle.sourceediting.proofs.Origins.{seen}
use Rattle.standins.specs.StandIns.{stand_in}
use Rattle.standins.proofs.Labelled.{labelled_next}
use Rattle.standins.proofs.standing.with_labels.Goals as goal

pub loop-theorem-preserved : goal.loop-theorem-preserved
loop-theorem-preserved c =
    let theorems = c.args.theorems.now in
    let labels = c.args.labels.now in
    let first : iter_rest (zip_first c.into_iter-theorem-iterator.result) ≡ theorems = search rules in
    let second : iter_rest (zip_second c.into_iter-theorem-iterator.result) ≡ labels = search rules in
    let yielded = c.loop-theorem.yielded in
    let turn = zip_turn theorems labels yielded c.into_iter-theorem-iterator.result c.loop-theorem.theorem-iterator c.next.new.self
    c.next.result first second c.loop-theorem.yielded_by (c.in-Some.theorem, c.in-Some.label) c.in-Some.is c.next.ensures.steps in
    let theorem = c.in-Some.theorem.now in
    let label = c.in-Some.label.now in
    labelled_next theorems labels (length yielded) theorem label turn.0 turn.1 (turn.2 theorem) (turn.3 label)
    (length (yielded ++ (c.in-Some.theorem, c.in-Some.label) ∷ [])) c.loop-theorem.made.items c.push.new.self.items _
    (length-append yielded ((c.in-Some.theorem, c.in-Some.label) ∷ []))
    c.in_ok-from_slice.ensures c.in_ok-from_slice-2.ensures c.in_ok-copy.ensures c.loop-theorem.invariant c.in_ok-push.ensures.items

pub returns : goal.returns
returns c =
    let theorems = c.args.theorems.now in
    let labels = c.args.labels.now in
    let first : iter_rest (zip_first c.into_iter-theorem-iterator.result) ≡ theorems = search rules in
    let second : iter_rest (zip_second c.into_iter-theorem-iterator.result) ≡ labels = search rules in
    let yielded = c.loop-theorem.yielded in
    let end = zip_end theorems labels yielded c.into_iter-theorem-iterator.result c.loop-theorem.theorem-iterator c.next.new.self
    c.next.result first second c.loop-theorem.yielded_by c.in-None.is c.next.ensures.steps in
    c.loop-theorem.invariant
    ∙ ap (map stand_in) (take_all (length yielded) (zip (seen_pairs theorems) labels)
    (omega (arith, end, length-zip (seen_pairs theorems) labels, length-map theorems seen)))

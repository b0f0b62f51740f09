-- What is left to show of `unmark`.
use Rattle.std.proofs.Common.{◌≡◌, ◌∙◌, take, set, false, sym, ap, arith, add-one}
use Rattle.std.proofs.lemmas.List.{take_all}
use Rattle.choosing.proofs.Speaking.{left_out, unmarked_none, unmarked_more, unmarked_same, unmarked_by, item_is}
use Rattle.choosing.proofs.spoken.unmark.Goals as goal
use Rattle.choosing.proofs.spoken.unmark.Goals.{then-is_other, else-is_other}

pub loop-place-init : goal.loop-place-init
loop-place-init c = unmarked_none c.args.marks.now

pub loop-place-preserved : goal.loop-place-preserved
loop-place-preserved c =
    let k = c.loop-place.place in
    let ms = c.args.marks.now in
    let os = c.args.others.now in
    elim c.if-is_other.branch [
      | then-is_other w ↦
          w.marks-is
          ∙ ap (λ bs. set bs k false) c.loop-place.invariant
          ∙ unmarked_more ms os k (item_is os k _ _ c.loop-place-test.true w.if-is_other.true)
          ∙ ap (λ j. left_out ms (take j os)) (sym (add-one k))
      | else-is_other w ↦
          w.marks-is
          ∙ c.loop-place.invariant
          ∙ unmarked_same ms os k (item_is os k _ _ c.loop-place-test.true w.if-is_other.false)
          ∙ ap (λ j. left_out ms (take j os)) (sym (add-one k))
    ]

pub returns : goal.returns
returns c =
    λ xs test asks marked asked.
    let all : take c.loop-place.place c.args.others.now ≡ c.args.others.now = take_all c.loop-place.place c.args.others.now (omega arith) in
    unmarked_by xs test asks c.args.marks.now c.args.others.now marked asked
    ∙ sym (c.loop-place.invariant ∙ ap (left_out c.args.marks.now) all)

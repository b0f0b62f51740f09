-- What is left to show of `labels_marked`.
use Rattle.std.proofs.Common.{◌∙◌, ◌++◌, ◌∷◌, [], take, sym, ap}
use Rattle.std.specs.Prelude.{filter}
use Rattle.source.specs.Views.{seen_words}
use Rattle.source.proofs.Slices.{one_more_word}
use Rattle.choosing.specs.Choices.{labels_of}
use Rattle.choosing.proofs.Speaking.{mark_at, label_more, label_same, label_is, label_there}
use Rattle.choosing.proofs.spoken.labels_marked.Goals as goal
use Rattle.choosing.proofs.spoken.labels_marked.Goals.{then-is_marked+in-Some+in_ok-push, then-is_marked+in_default, else-is_marked}

pub loop-place-preserved : goal.loop-place-preserved
loop-place-preserved g c =
    λ test are.
    let xs = (g.D.Declared.scope c.args.declared.now).assertions in
    let k = c.loop-place.place in
    let before = labels_of (filter (λ y. test y.label) (take k xs)) in
    elim c.if-is_marked.branch [
      | then-is_marked+in-Some+in_ok-push w ↦
          let x = mark_at xs k test c.args.marks.now _ _ c.loop-place-test.true are w.if-is_marked.true in
          let same = label_is xs k x.0 w.label.result w.in-Some.label x.1 w.in-Some.is w.label.ensures in
          ap (λ v. seen_words v.items) w.labels-is
          ∙ ap seen_words w.in_ok-push.ensures.items
          ∙ one_more_word c.loop-place.labels.items w.in-Some.label
          ∙ ap (λ ws. ws ++ w.in-Some.label.now ∷ []) (c.loop-place.invariant test are)
          ∙ ap (λ l. before ++ l ∷ []) same
          ∙ sym (label_more xs test k x.0 x.1 x.2)
      | then-is_marked+in_default w ↦
          let x = mark_at xs k test c.args.marks.now _ _ c.loop-place-test.true are w.if-is_marked.true in
          absurd (label_there xs k x.0 w.label.result x.1 w.in_default.is w.label.ensures)
      | else-is_marked w ↦
          let x = mark_at xs k test c.args.marks.now _ _ c.loop-place-test.true are w.if-is_marked.false in
          ap (λ v. seen_words v.items) w.labels-is
          ∙ c.loop-place.invariant test are
          ∙ sym (label_same xs test k x.0 x.1 x.2)
    ]

-- What is left to show of `labels_then`.
use Rattle.std.proofs.Common.{◌∙◌, [], ◌∷◌, map, Some, None, sym, ap, Vec, Global, append-nil}
use Rattle.std.specs.Prelude.{option_map}
use Rattle.std.proofs.lemmas.List.{map-append}
use Rattle.pasting.specs.Views.{seen_given_labels}
use Rattle.pasting.specs.declared.own_words.GivenLabels.{GivenLabels as CodeLabels}
use Rattle.sourceediting.proofs.Labels.{gives_more}
use Rattle.dressing.specs.OwnWords.{premises_then}
use Rattle.dressing.proofs.labelled.labels_then.Goals as goal
use Rattle.dressing.proofs.labelled.labels_then.Goals.{in-Some+in_ok-push, in_default}

pub loop-followed-preserved : goal.loop-followed-preserved
loop-followed-preserved c =
    let items = c.as_slice-followed-items.result.now in
    let k = c.loop-followed.followed-index in
    let gives = premises_then (map seen_given_labels c.args.given.now) in
    let before = c.loop-followed.made.items in
    let seen_in = λ (v : Vec CodeLabels Global). map seen_given_labels v.items in
    elim c.match-premises_then.branch [
      | in-Some+in_ok-push w ↦
          ap seen_in w.made-is
          ∙ ap (map seen_given_labels) w.in_ok-push.ensures.items
          ∙ map-append seen_given_labels before (w.in-Some.premises ∷ [])
          ∙ gives_more items k _ c.loop-followed-test.true gives (map seen_given_labels before)
          (Some (seen_given_labels w.in-Some.premises)) c.loop-followed.invariant
          (sym (ap (option_map seen_given_labels) w.in-Some.is) ∙ c.premises_then.ensures)
      | in_default w ↦
          ap seen_in w.made-is
          ∙ sym (append-nil (map seen_given_labels before))
          ∙ gives_more items k _ c.loop-followed-test.true gives (map seen_given_labels before) None c.loop-followed.invariant
          (sym (ap (option_map seen_given_labels) w.in_default.is) ∙ c.premises_then.ensures)
    ]

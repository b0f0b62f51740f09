-- What is left to show of `labels_among`.
use Rattle.std.proofs.Common.{◌∙◌, [], ◌∷◌, Option, Some, None, Vec, Global, map, sym, ap, append-nil}
use Rattle.std.proofs.lemmas.List.{map-append}
use Rattle.source.specs.Views.{seen_words}
use Rattle.pasting.specs.Quotes.{GivenLabels, Quotation, premises_by}
use Rattle.pasting.specs.Views.{seen_given_labels, seen_own_words}
use Rattle.pasting.specs.declared.own_words.GivenLabels.{GivenLabels as Code}
use Rattle.pasting.specs.declared.own_words.OwnWords.{OwnWords}
use Rattle.pasting.proofs.Quoting.{picked_more}
use Rattle.pasting.proofs.own_words.labels_among.Goals as goal
use Rattle.pasting.proofs.own_words.labels_among.Goals.{in-Premises+in_ok-push, in_default}

pub loop-quotation-preserved : goal.loop-quotation-preserved
loop-quotation-preserved c =
    let qs = c.args.quotations.now in
    let i = c.loop-quotation.quotation-index in
    let q = c.quotation-item.result in
    let before = c.loop-quotation.made.items in
    let pick : Quotation → Option GivenLabels = λ q. premises_by q.label q.words in
    let more = picked_more pick qs i q c.loop-quotation-test.true c.quotation-item.is (map seen_given_labels before) in
    elim c.match-quotation.branch [
      | in-Premises+in_ok-push w ↦
          ap (λ (v : Vec Code Global). map seen_given_labels v.items) w.made-is
          ∙ (ap (map seen_given_labels) w.in_ok-push.ensures.items
          ∙ (map-append seen_given_labels before (_ ∷ [])
          ∙ more (Some _) c.loop-quotation.invariant
          (ap (λ ws. Some (record { label = q.label.now; premises = seen_words ws })) w.as_slice-premises.ensures.value
          ∙ sym (ap (λ (o : OwnWords). premises_by q.label.now (seen_own_words o)) w.in-Premises.is))))
      | in_default w ↦
          ap (λ (v : Vec Code Global). map seen_given_labels v.items) w.made-is
          ∙ (sym (append-nil (map seen_given_labels before))
          ∙ more None c.loop-quotation.invariant
          (sym (ap (λ (o : OwnWords). premises_by q.label.now (seen_own_words o)) w.in_default.is)))
    ]

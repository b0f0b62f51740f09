-- What is left to show of `proofs_among`.
use Rattle.std.proofs.Common.{◌∙◌, [], ◌∷◌, Option, Some, None, Vec, Global, map, sym, ap, append-nil}
use Rattle.std.proofs.lemmas.List.{map-append}
use Rattle.pasting.specs.Quotes.{GivenProof, Quotation, proof_by}
use Rattle.pasting.specs.Views.{seen_given_proof, seen_own_words}
use Rattle.pasting.specs.declared.own_words.GivenProof.{GivenProof as Code}
use Rattle.pasting.specs.declared.own_words.OwnWords.{OwnWords}
use Rattle.pasting.proofs.Quoting.{picked_more}
use Rattle.pasting.proofs.own_words.proofs_among.Goals as goal
use Rattle.pasting.proofs.own_words.proofs_among.Goals.{in-Proof+in_ok-push, in_default}

pub loop-quotation-preserved : goal.loop-quotation-preserved
loop-quotation-preserved c =
    let qs = c.args.quotations.now in
    let i = c.loop-quotation.quotation-index in
    let q = c.quotation-item.result in
    let before = c.loop-quotation.made.items in
    let pick : Quotation → Option GivenProof = λ q. proof_by q.label q.words in
    let more = picked_more pick qs i q c.loop-quotation-test.true c.quotation-item.is (map seen_given_proof before) in
    elim c.match-quotation.branch [
      | in-Proof+in_ok-push w ↦
          ap (λ (v : Vec Code Global). map seen_given_proof v.items) w.made-is
          ∙ (ap (map seen_given_proof) w.in_ok-push.ensures.items
          ∙ (map-append seen_given_proof before (_ ∷ [])
          ∙ more (Some _) c.loop-quotation.invariant
          (sym (ap (λ (o : OwnWords). proof_by q.label.now (seen_own_words o)) w.in-Proof.is))))
      | in_default w ↦
          ap (λ (v : Vec Code Global). map seen_given_proof v.items) w.made-is
          ∙ (sym (append-nil (map seen_given_proof before))
          ∙ more None c.loop-quotation.invariant
          (sym (ap (λ (o : OwnWords). proof_by q.label.now (seen_own_words o)) w.in_default.is)))
    ]

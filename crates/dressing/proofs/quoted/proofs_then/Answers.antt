-- What is left to show of `proofs_then`.
use Rattle.std.proofs.Common.{◌∙◌, [], ◌∷◌, map, Some, None, sym, ap, Vec, Global, append-nil}
use Rattle.std.specs.Prelude.{option_map}
use Rattle.std.proofs.lemmas.List.{map-append}
use Rattle.pasting.specs.Views.{seen_given_proof}
use Rattle.pasting.specs.declared.own_words.GivenProof.{GivenProof as CodeProof}
use Rattle.sourceediting.proofs.Labels.{gives_more}
use Rattle.dressing.specs.OwnWords.{proof_then}
use Rattle.dressing.proofs.quoted.proofs_then.Goals as goal
use Rattle.dressing.proofs.quoted.proofs_then.Goals.{in-Some+in_ok-push, in_default}

pub loop-followed-preserved : goal.loop-followed-preserved
loop-followed-preserved c =
    let items = c.as_slice-followed-items.result.now in
    let k = c.loop-followed.followed-index in
    let gives = proof_then (map seen_given_proof c.args.given.now) in
    let before = c.loop-followed.made.items in
    let seen_in = λ (v : Vec CodeProof Global). map seen_given_proof v.items in
    elim c.match-proof_then.branch [
      | in-Some+in_ok-push w ↦
          ap seen_in w.made-is
          ∙ ap (map seen_given_proof) w.in_ok-push.ensures.items
          ∙ map-append seen_given_proof before (w.in-Some.proof ∷ [])
          ∙ gives_more items k _ c.loop-followed-test.true gives (map seen_given_proof before)
          (Some (seen_given_proof w.in-Some.proof)) c.loop-followed.invariant
          (sym (ap (option_map seen_given_proof) w.in-Some.is) ∙ c.proof_then.ensures)
      | in_default w ↦
          ap seen_in w.made-is
          ∙ sym (append-nil (map seen_given_proof before))
          ∙ gives_more items k _ c.loop-followed-test.true gives (map seen_given_proof before) None c.loop-followed.invariant
          (sym (ap (option_map seen_given_proof) w.in_default.is) ∙ c.proof_then.ensures)
    ]

-- What is left to show of `first_behind_at`.
use Rattle.std.proofs.Common.{◌≡◌, ◌∙◌, ◌<◌, ℕ, List, [], Some, get_or, length, sym, ap, subst}
use Rattle.std.specs.Prelude.{IsTrue}
use Rattle.std.specs.Option.{option_map, option_and_then}
use Rattle.std.specs.Borrow.{Bor}
use Rattle.std.specs.Str.{bytes_eq}
use Rattle.std.proofs.lemmas.List.{get_or-map, length-map}
use Rattle.std.proofs.lemmas.List.Folds.{list_any_at}
use Rattle.mmsyntax.proofs.Names.{bytes_eq-same}
use Rattle.source.specs.Scopes.{Assertion, is_in}
use Rattle.source.specs.Views.{seen_words, seen_proof}
use Rattle.source.specs.declared.standing.ProofWords.{ProofWords}
use Rattle.giving.specs.Staying.{changed}
use Rattle.sourceediting.specs.Refusals.{names}
use Rattle.sourceediting.proofs.Origins.{label_is}
use Rattle.givetext.specs.Parts.{AreInOrder}
use Rattle.givetext.proofs.standing.first_behind_at.Goals as goal

pub returns-then-are_in_order : goal.returns-then-are_in_order
returns-then-are_in_order g c = λ fs x are at.
    let xs : List Assertion = (g.D.Declared.scope c.args.declared.now).assertions in
    let changes = c.args.changes.now in
    let labels = c.proof_labels-label-items.result.now in
    let k = c.loop-label.label-index in
    let d : Bor (List ℕ) = record { ref_ptr = (0, 0); now = [] } in
    let w = (get_or labels k d).now in
    let own = c.in_ok-label.field-0 in
    let proof = c.in_ok-proof.field-0 in
    let within : k < length (seen_words labels) = rw length-map c.loop-label-test.true in
    let among : IsTrue (is_in (seen_words labels) w) =
    list_any_at (bytes_eq w) (seen_words labels) k [] within
    (ap (bytes_eq w) (get_or-map (λ (v : Bor (List ℕ)). v.now) labels k d [] c.loop-label-test.true) ∙ bytes_eq-same w) in
    let has : Some (seen_proof proof.now) ≡ x.proof =
    ap (option_map (λ (p : Bor ProofWords). seen_proof p.now)) (sym c.in_ok-proof.was) ∙ c.proof.ensures
    ∙ ap (option_and_then (λ (a : Assertion). a.proof)) at in
    let mine : own.now ≡ x.label = label_is own c.label.result x _ c.in_ok-label.was c.label.ensures at in (
      subst (λ o. IsTrue (names w o)) has (subst (λ ws. IsTrue (is_in ws w)) c.proof_labels-label-items.ensures among),
      subst (λ l. AreInOrder fs l (changed changes w)) (c.label_then-citing.ensures ∙ ap (changed changes) mine)
          (subst (AreInOrder fs c.label_then-citing.result.now) c.label_then.ensures
          (c.are_in_order.ensures fs are c.if-are_in_order.true)),
    )

-- What is left to show of `put_reproved`.
use Rattle.std.proofs.Common.{◌∙◌, ◌++◌, codes, refl, ap, append_assoc, arith}
use Rattle.items.specs.Items.{bytes_of}
use Rattle.items.specs.Machine.{rest_then}
use Rattle.items.proofs.Stated.{at_label}
use Rattle.items.proofs.PutThen.{has_proof_text}
use Rattle.items.proofs.writing.put_reproved.Goals as goal

pub returns-clause-put : goal.returns-clause-put
returns-clause-put c = λ x label stands is has other _.
    let cs = c.args.changes.now in
    let proof = c.args.proof.now in
    let f = c.in-Some.ensures.front in
    let out = c.args.out.now.items in
    let front = bytes_of (rest_then cs at_label f.front) in
    let less = c.if-front-end.false in (
      front ++ (proof ++ codes "$."),
      c.in_ok-extend_from_slice-2.ensures.items ∙ ap (λ o. o ++ codes "$.") c.in_ok-extend_from_slice.ensures.items
          ∙ ap (λ o. (o ++ proof) ++ codes "$.") (c.in_ok-put_reworded.ensures f.front f.stands at_label refl refl)
          ∙ append_assoc (out ++ front) proof (codes "$.") ∙ append_assoc out front (proof ++ codes "$."),
      has_proof_text cs c.args.text.now proof c.args.from c.in-Some.front c.args.end x label stands is has other f (omega (arith, less)),
    )

-- What is left to show of `put_item`.
use Rattle.std.proofs.Common.{◌∙◌, ◌++◌, refl, ap, subst}
use Rattle.std.specs.Prelude.{IsTrue}
use Rattle.std.proofs.lemmas.Result.{IfOk-weaker}
use Rattle.items.specs.Items.{bytes_of}
use Rattle.items.specs.Machine.{IsPut}
use Rattle.items.specs.Rewriting.{HasProofText, ReadsThen}
use Rattle.items.specs.Reading.{IsOfKind}
use Rattle.items.specs.Renaming.{renamed}
use Rattle.items.proofs.Stated.{at_label, at_fixed, assertion_reads, other_reads}
use Rattle.items.proofs.PutThen.{unlabelled, reads_unlabelled, reads_renamed, reads_reproved}
use Rattle.items.proofs.writing.put_item.Goals as goal

pub returns-in_default-clause-put : goal.returns-in_default-clause-put
returns-in_default-clause-put c = λ is _.
    let cs = c.args.changes.now in
    let none = unlabelled c.args.item.kind c.in_default.not-Assertion is.item is.kind in (
      bytes_of (renamed cs is.item),
      c.in_ok-put_reworded.ensures is.item is.stands at_fixed refl refl
          ∙ ap (λ y. c.args.out.now.items ++ bytes_of y) (other_reads cs is.item none),
      reads_unlabelled cs c.args.proofs.now is.item (bytes_of (renamed cs is.item)) none refl,
    )

pub returns-in-Some-clause-put : goal.returns-in-Some-clause-put
returns-in-Some-clause-put c = λ is.
    let cs = c.args.changes.now in
    let proof = c.in-Some.proof.now in
    let label = c.in-Assertion.label.now in
    let kind = subst (λ k. IsOfKind k is.item) c.in-Assertion.is is.kind in
    IfOk-weaker c.put_reproved.result
    (λ put. IsTrue put → IsPut c.args.out.now.items c.put_reproved.new.out.items (HasProofText cs proof is.item))
    (λ put. IsTrue put → IsPut c.args.out.now.items c.put_reproved.new.out.items (ReadsThen cs c.args.proofs.now is.item))
    (λ put h yes.
    let p = h yes in (p.0, p.1, reads_reproved cs c.args.proofs.now is.item label proof p.0 kind.1 c.in-Some.ensures p.2))
    (c.put_reproved.ensures.put is.item label is.stands kind.0 kind.1 kind.2)

pub returns-clause-put : goal.returns-clause-put
returns-clause-put c = λ is _.
    let cs = c.args.changes.now in
    let kind = subst (λ k. IsOfKind k is.item) c.in-Assertion.is is.kind in (
      bytes_of (renamed cs is.item),
      c.in_ok-put_reworded-2.ensures is.item is.stands at_label refl refl
          ∙ ap (λ y. c.args.out.now.items ++ bytes_of y) (assertion_reads cs is.item c.in-Assertion.label.now kind.1),
      reads_renamed cs c.args.proofs.now is.item c.in-Assertion.label.now (bytes_of (renamed cs is.item)) kind.1
          c.in_default-text_for.ensures refl,
    )

-- What is left to show of `attire_of`: what is no assertion has no label.
use Rattle.std.proofs.Common.{sym}
use Rattle.items.proofs.PutThen.{unlabelled}
use Rattle.dressing.proofs.Dressed.{none_given}
use Rattle.dressing.proofs.putting.attire_of.Goals as goal

pub returns-in_default : goal.returns-in_default
returns-in_default c =
    let d = c.args.dressing.now in
    let kind = c.args.item.kind in
    record {
      comment = λ x is. sym (none_given d.descriptions x (unlabelled kind (λ label e. c.in_default.not-Assertion label e) x is));
      proof = λ x is. sym (none_given d.proofs x (unlabelled kind (λ label e. c.in_default.not-Assertion label e) x is));
    }

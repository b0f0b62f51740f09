-- What is left to show of `put`.
use Rattle.source.specs.Views.{seen_words}
use Rattle.items.specs.Items.{label_of}
use Rattle.items.proofs.PutThen.{unlabelled}
use Rattle.remarks.proofs.Read.{without_label}
use Rattle.remarks.proofs.reading.Remarks.put.Goals as goal

pub returns-in_default : goal.returns-in_default
returns-in_default c =
    let none = unlabelled c.args.item.kind c.in_default.not-Assertion in
    let was = c.args.self.now in
    let front = c.args.front in
    record {
      modification = λ x is. without_label front.modification (seen_words was.modification.items) (label_of x) (none x is);
      usage = λ x is. without_label front.usage (seen_words was.usage.items) (label_of x) (none x is);
    }

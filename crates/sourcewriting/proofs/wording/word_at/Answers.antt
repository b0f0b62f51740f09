-- What is left to show of `word_at`.
use Rattle.std.proofs.Common.{◌∙◌, sym, ap}
use Rattle.std.specs.Prelude.{slice_get}
use Rattle.std.specs.Borrow.{Bor}
use Rattle.std.specs.Option.{option_map}
use Rattle.source.proofs.Lent.{got_lent}
use Rattle.sourcewriting.specs.declared.shared.CountedLabel.{CountedLabel}
use Rattle.sourcewriting.proofs.Named.{named_at}
use Rattle.sourcewriting.proofs.wording.word_at.Goals as goal

pub returns-in-Some : goal.returns-in-Some
returns-in-Some c = λ are.
    let i = c.word.result in
    named_at c.args.shared.now.words.items i c.in-Some.word.now
    (ap (λ ws. slice_get ws i) (sym c.words.ensures)
    ∙ sym (got_lent c.words.result.now i c.get.result c.get.ensures.lookup)
    ∙ ap (option_map (λ (w : Bor CountedLabel). w.now)) c.in-Some.is) are

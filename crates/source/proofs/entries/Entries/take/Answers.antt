-- What is left to show of `take`.
use Rattle.std.proofs.Common.{sym, subst}
use Rattle.std.proofs.lemmas.Result.{MatchResult-weaker}
use Rattle.source.specs.Counts.{IsStep}
use Rattle.source.proofs.CountedLabels.{label_word, word_counted}
use Rattle.source.proofs.entries.Entries.take.Goals as goal

pub returns : goal.returns
returns c =
    let old = c.args.self.now in
    let new = c.put_citation.new.self in
    MatchResult-weaker c.put_citation.result c.put_citation.ensures
    (λ goes step s ws w counted label names. word_counted s.assertions s.hypotheses ws w old new goes counted
    (subst (λ x. IsStep s.assertions s.hypotheses x old new goes) (sym (label_word w label))
    (step s.assertions s.hypotheses w names)))
    (λ _ full. full)

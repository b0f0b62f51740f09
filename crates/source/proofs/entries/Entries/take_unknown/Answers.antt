-- What is left to show of `take_unknown`.
use Rattle.std.proofs.Common.{sym, subst, ◌∙◌}
use Rattle.source.specs.Counts.{IsStep}
use Rattle.source.proofs.Counted.{unknown_step, always}
use Rattle.source.proofs.CountedLabels.{unknown_word, word_counted}
use Rattle.source.proofs.entries.Entries.take_unknown.Goals as goal

pub returns : goal.returns
returns c =
    let old = c.args.self.now in
    let new = c.put.new.self in
    let puts = c.in_ok-put.ensures in
    λ s ws w counted unknown.
    let step = subst (λ x. IsStep s.assertions s.hypotheses x old new c.in_ok-put.field-0) (sym (unknown_word w unknown))
    (unknown_step s.assertions s.hypotheses old new c.in_ok-put.field-0 puts) in
    (word_counted s.assertions s.hypotheses ws w old new c.in_ok-put.field-0 counted step).1 (puts.0 ∙ always old.entries)

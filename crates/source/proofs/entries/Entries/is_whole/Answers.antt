-- What is left to show of `is_whole`.
use Rattle.std.proofs.Common.{sym, ◌∙◌}
use Rattle.source.specs.Scopes.{mandatory}
use Rattle.source.proofs.CountedWords.{labels_ended, letters_ended, one_ended, other_ended}
use Rattle.source.proofs.entries.Entries.is_whole.Goals as goal

pub returns-then-self-eq1-clause-steps : goal.returns-then-self-eq1-clause-steps
returns-then-self-eq1-clause-steps c =
    λ s e ws counted.
    one_ended c.args.self.now c.if-self-eq1.true
    ∙ sym (labels_ended s.assertions s.hypotheses (mandatory s.hypotheses e) ws c.args.self.now counted)

pub returns-then-self-eq1-clause-letters : goal.returns-then-self-eq1-clause-letters
returns-then-self-eq1-clause-letters c =
    λ s e labels ls counted.
    one_ended c.args.self.now c.if-self-eq1.true
    ∙ sym (letters_ended s.assertions s.hypotheses (mandatory s.hypotheses e) labels ls c.args.self.now counted)

pub returns-else-self-eq1-clause-steps : goal.returns-else-self-eq1-clause-steps
returns-else-self-eq1-clause-steps c =
    λ s e ws counted.
    other_ended c.args.self.now c.if-self-eq1.false
    ∙ sym (labels_ended s.assertions s.hypotheses (mandatory s.hypotheses e) ws c.args.self.now counted)

pub returns-else-self-eq1-clause-letters : goal.returns-else-self-eq1-clause-letters
returns-else-self-eq1-clause-letters c =
    λ s e labels ls counted.
    other_ended c.args.self.now c.if-self-eq1.false
    ∙ sym (letters_ended s.assertions s.hypotheses (mandatory s.hypotheses e) labels ls c.args.self.now counted)

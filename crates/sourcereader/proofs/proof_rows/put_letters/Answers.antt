-- What is left to show of `put_letters`.
use Rattle.std.proofs.Common.{sym, ap, subst, ◌∙◌, cond, Ok, None, Some}
use Rattle.mmtext.specs.declared.fault.FaultKind.TheVariants.{BadToken}
use Rattle.mmtext.specs.Views.{seen}
use Rattle.source.specs.Views.{seen_words}
use Rattle.source.specs.Counts.{CountsLetters}
use Rattle.source.proofs.Slices.{one_more_word}
use Rattle.sourcereader.specs.Takings.{one_more}
use Rattle.sourcereader.proofs.proof_rows.put_letters.Goals as goal

pub returns-then-not-branch-clause-puts : goal.returns-then-not-branch-clause-puts
returns-then-not-branch-clause-puts c = λ s e n counts.
    let ws = seen_words c.args.compressed.now.numbered.labels.items in
    let ls = seen_words c.args.compressed.now.letters.items in
    let took = c.in_ok-take_letters.ensures s e ws ls counts n.hypotheses (rw c.deref.ensures.value n.citations) in
    rw c.fault_at.ensures
    (ap (one_more (seen c.args.token) ls) (took.0 ∙ ap (λ b. cond b None (Some BadToken)) c.if-not-branch.true))

pub returns-clause-puts : goal.returns-clause-puts
returns-clause-puts c = λ s e n counts.
    let ws = seen_words c.args.compressed.now.numbered.labels.items in
    let ls = seen_words c.args.compressed.now.letters.items in
    let took = c.in_ok-take_letters.ensures s e ws ls counts n.hypotheses (rw c.deref.ensures.value n.citations) in
    ap (one_more (seen c.args.token) ls) (took.0 ∙ ap (λ b. cond b None (Some BadToken)) c.if-not-branch.false)
    ∙ ap (λ x. Ok x) (sym (ap seen_words c.in_ok-push.ensures.items ∙ one_more_word c.args.compressed.now.letters.items c.args.token.text))

pub returns-clause-counted : goal.returns-clause-counted
returns-clause-counted c = λ s e n counts.
    let ws = seen_words c.args.compressed.now.numbered.labels.items in
    let ls = seen_words c.args.compressed.now.letters.items in
    let took = c.in_ok-take_letters.ensures s e ws ls counts n.hypotheses (rw c.deref.ensures.value n.citations) in
    subst (λ x. CountsLetters s e ws x c.take_letters.new.self)
    (sym (ap seen_words c.in_ok-push.ensures.items ∙ one_more_word c.args.compressed.now.letters.items c.args.token.text))
    (took.1 c.if-not-branch.false)

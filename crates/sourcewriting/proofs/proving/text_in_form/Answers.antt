-- What is left to show of `text_in_form`.
use Rattle.std.proofs.Common.{◌∙◌}
use Rattle.source.specs.Views.{seen_words}
use Rattle.sourcewriting.proofs.MarkedWords.{laid_out_text, marked_text}
use Rattle.sourcewriting.proofs.Named.{refuted}
use Rattle.sourcewriting.proofs.proving.text_in_form.Goals as goal

pub returns-then-branch-clause-laid_out : goal.returns-then-branch-clause-laid_out
returns-then-branch-clause-laid_out c =
    let i = c.args.indentation.now in
    let has = c.in_ok-put_in_form.ensures.laid i c.new-layout.ensures.laid c.if-branch.true in
    laid_out_text i c.args.is_compressed c.put_in_form.new.layout c.finish.result has.0 c.finish.ensures.laid

pub returns-then-branch-clause-marked : goal.returns-then-branch-clause-marked
returns-then-branch-clause-marked c = λ is.
    let i = c.args.indentation.now in
    let has = c.in_ok-put_in_form.ensures.laid i c.new-layout.ensures.laid c.if-branch.true in
    marked_text i c.put_in_form.new.layout (seen_words c.args.mandatory.now) c.args.shared.now.words.items c.finish.result (has.1 is)
    c.finish.ensures.laid

pub returns-then-branch-clause-some : goal.returns-then-branch-clause-some
returns-then-branch-clause-some c = λ names can.
    c.finish.ensures.whole ((c.in_ok-put_in_form.ensures.fine names can).1 ∙ c.new-layout.ensures.fine)

pub returns-else-branch-clause-some : goal.returns-else-branch-clause-some
returns-else-branch-clause-some c = λ names can.
    absurd (refuted _ (c.in_ok-put_in_form.ensures.fine names can).0 c.if-branch.false)

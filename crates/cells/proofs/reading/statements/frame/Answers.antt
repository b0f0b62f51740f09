use Rattle.std.proofs.Common.{◌≡◌, ◌∙◌, ap}
use Rattle.bodystore.specs.Bodies.{statement_of}
use Rattle.mmsyntax.specs.declared.statement.Assertion.{Assertion}
use Rattle.mmframes.specs.Frames.{frame}
use Rattle.cells.proofs.ReadBack.{framed}
use Rattle.cells.proofs.reading.statements.frame.Goals as goal

pub returns-clause-ok : goal.returns-clause-ok
returns-clause-ok g c = λ st lib v e at h.
    let is : c.in_ok-statement.statement ≡ statement_of e.assertion = c.in_ok-statement.ensures.ok st lib v e at h in
    c.in_ok-frame_of.ensures ∙ (ap (λ (a : Assertion). frame c.args.prelude.now a) c.into_assertion-bare.ensures
    ∙ framed c.args.prelude.now e.assertion c.new.result c.in_ok-statement.statement c.new-2.result is)

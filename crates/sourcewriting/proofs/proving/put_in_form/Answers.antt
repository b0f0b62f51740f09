use Rattle.std.proofs.Common.{[], ◌++◌, refl, sym, ◌∙◌}
use Rattle.taking.proofs.Turned.{if_ok}
use Rattle.sourcewriting.proofs.Labels.{form_of_labels}
use Rattle.sourcewriting.specs.Lines.{parenthesized}
use Rattle.sourcewriting.specs.Reading.{labels_in}
use Rattle.sourcewriting.proofs.proving.put_in_form.Goals as goal

pub returns-then-is_compressed-clause-laid : goal.returns-then-is_compressed-clause-laid
returns-then-is_compressed-clause-laid c = λ i laid.
    if_ok c.put_compressed.result
    (λ right has yes.
    let marked = has yes in
    ((parenthesized (labels_in marked.labels) ++ marked.laid.0, marked.laid.2.0, λ _. sym c.if-is_compressed.true), λ _. marked))
    (c.put_compressed.ensures.laid i laid)

pub returns-in_ok-put_normal-clause-laid : goal.returns-in_ok-put_normal-clause-laid
returns-in_ok-put_normal-clause-laid c = λ i laid.
    λ whole.
    let has = c.in_ok-put_normal.ensures.laid i ([], (laid, λ _. refl)) in (
      (has.0, has.1.0, λ right. form_of_labels has.0 (has.1.1 right) ∙ sym c.if-is_compressed.false),
      λ is. absurd (cc c.if-is_compressed.false),
    )

pub returns-then-is_compressed-clause-fine : goal.returns-then-is_compressed-clause-fine
returns-then-is_compressed-clause-fine c = λ names can. c.put_compressed.ensures.fine names (can c.if-is_compressed.true)

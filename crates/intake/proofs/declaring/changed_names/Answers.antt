-- What is left to show of `changed_names`.
use Rattle.std.proofs.Common.{map, ap}
use Rattle.intake.proofs.Libraries.{part, chain, changed_are}
use Rattle.taking.specs.Names.{Naming}
use Rattle.intake.proofs.declaring.changed_names.Goals as goal
use Rattle.std.proofs.Common.{List, Bor, ◌∙◌, sym}
use Rattle.mmtext.specs.Words.{Word}
use Rattle.mmsyntax.specs.declared.label.Label.{Label}

pub returns : goal.returns
returns c =
    let seen : List (Bor Word × Label) → List Naming = λ ps. map (λ p. (p.0.now, p.1)) ps in
    let t = c.args.sites.now in
    let names = c.args.names.now in
    chain (seen c.new-changed.result.items) (seen c.put_changed.new.changed.items) (seen c.put_changed-2.new.changed.items)
    (seen c.put_changed-3.new.changed.items) (seen c.put_changed-4.new.changed.items) _ _ _ _
    (ap seen c.new-changed.ensures.items)
    (part _ _ _ t.constants _ names.constants c.in_ok-put_changed.ensures c.constants.ensures.words c.as_slice.ensures)
    (part _ _ _ t.variables _ names.variables c.in_ok-put_changed-2.ensures c.variables.ensures c.as_slice-2.ensures)
    (part _ _ _ t.floats _ names.floats c.in_ok-put_changed-3.ensures c.floats.ensures.words c.as_slice-3.ensures)
    (part _ _ _ t.labels _ names.labels c.in_ok-put_changed-4.ensures c.labels.ensures c.as_slice-4.ensures)
    ∙ sym (changed_are t names c.requires)

-- What is left to show of `fate_of`.
use Rattle.std.proofs.Common.{◌∙◌, cond, sym, ap}
use Rattle.source.specs.Scopes.{is_in}
use Rattle.leaving.specs.declared.part.Fate.TheVariants.{Stays, Deleted, Moves}
use Rattle.arranging.specs.Parts.{known_labels}
use Rattle.giving.proofs.Finding.{text_found}
use Rattle.arranging.proofs.describing.fate_of.Goals as goal

pub returns-then-is_some : goal.returns-then-is_some
returns-then-is_some c =
    let w = c.args.label.now in
    let gone = c.is_some.ensures ∙ text_found c.args.gone.now w c.text_for.result c.text_for.ensures in
    ap (λ b. cond b Deleted (cond (is_in (known_labels c.args.moving.now) w) Moves Stays)) (sym c.if-is_some.true ∙ gone)

pub returns-then-is_some-2 : goal.returns-then-is_some-2
returns-then-is_some-2 c =
    let w = c.args.label.now in
    let gone = c.is_some.ensures ∙ text_found c.args.gone.now w c.text_for.result c.text_for.ensures in
    let moving =
    c.is_some-else-is_some.ensures
    ∙ text_found c.args.moving.now w c.text_for-else-is_some.result c.text_for-else-is_some.ensures in
    ap (λ b. cond b Moves Stays) (sym c.if-is_some-2.true ∙ moving)
    ∙ ap (λ b. cond b Deleted (cond (is_in (known_labels c.args.moving.now) w) Moves Stays)) (sym c.if-is_some.false ∙ gone)

pub returns-else-is_some-2 : goal.returns-else-is_some-2
returns-else-is_some-2 c =
    let w = c.args.label.now in
    let gone = c.is_some.ensures ∙ text_found c.args.gone.now w c.text_for.result c.text_for.ensures in
    let moving =
    c.is_some-else-is_some.ensures
    ∙ text_found c.args.moving.now w c.text_for-else-is_some.result c.text_for-else-is_some.ensures in
    ap (λ b. cond b Moves Stays) (sym c.if-is_some-2.false ∙ moving)
    ∙ ap (λ b. cond b Deleted (cond (is_in (known_labels c.args.moving.now) w) Moves Stays)) (sym c.if-is_some.false ∙ gone)

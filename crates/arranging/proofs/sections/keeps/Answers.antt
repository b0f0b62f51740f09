-- What is left to show of `keeps`.
use Rattle.std.proofs.Common.{◌≡◌, ◌∙◌, true, false, [], ◌∷◌, sym, ap}
use Rattle.std.specs.Prelude.{◌&&◌}
use mathlib.Core.Bool.{not}
use Rattle.source.specs.Scopes.{is_in}
use Rattle.giving.proofs.Finding.{text_found}
use Rattle.items.specs.Items.{label_of}
use Rattle.arranging.proofs.Known.{label_by, has_label, unlabelled_kind}
use Rattle.arranging.proofs.Under.{keeps_label, keeps_none, not_back}
use Rattle.arranging.proofs.sections.keeps.Goals as goal

pub returns-then-is_some : goal.returns-then-is_some
returns-then-is_some c = λ e x library moving kind.
    let label = c.in-Assertion.label.now in
    let has : label_of x ≡ label ∷ [] = has_label c.args.item.kind x kind ∙ ap label_by c.in-Assertion.is in
    let lives : true ≡ is_in e.library label =
    sym c.if-is_some.true
    ∙ (c.is_some.ensures
    ∙ (text_found c.args.library.now label c.text_for.result c.text_for.ensures ∙ sym (ap (λ ls. is_in ls label) library))) in
    let goes =
    text_found c.args.moving.now label c.text_for-then-is_some.result c.text_for-then-is_some.ensures
    ∙ sym (ap (λ ls. is_in ls label) moving) in
    not_back _ c.is_none.result c.is_none.ensures
    ∙ (ap not goes ∙ (ap (λ b. b && not (is_in e.moving label)) lives ∙ keeps_label e x label has))

pub returns-else-is_some : goal.returns-else-is_some
returns-else-is_some c = λ e x library moving kind.
    let label = c.in-Assertion.label.now in
    let has : label_of x ≡ label ∷ [] = has_label c.args.item.kind x kind ∙ ap label_by c.in-Assertion.is in
    let lives : false ≡ is_in e.library label =
    sym c.if-is_some.false
    ∙ (c.is_some.ensures
    ∙ (text_found c.args.library.now label c.text_for.result c.text_for.ensures ∙ sym (ap (λ ls. is_in ls label) library))) in
    c.if-is_some.false ∙ (ap (λ b. b && not (is_in e.moving label)) lives ∙ keeps_label e x label has)

pub returns-in_default : goal.returns-in_default
returns-in_default c = λ e x library moving kind.
    keeps_none e x (has_label c.args.item.kind x kind ∙ unlabelled_kind c.args.item.kind c.in_default.not-Assertion)

-- What is left to show of `is_back`.
use Rattle.std.proofs.Common.{◌≡◌, length, sym, subst, arith}
use Rattle.std.proofs.lemmas.Bool.Decides.{nat_tests}
use Rattle.items.specs.Reading.{IsOfKind}
use Rattle.items.specs.declared.reading.Kind.TheVariants.{Assertion}
use Rattle.arranging.specs.Written.{IsBack}
use Rattle.arranging.proofs.Anew.{back_alone, back_closes}
use Rattle.arranging.proofs.group.is_back.Goals as goal

pub returns-then-opened : goal.returns-then-opened
returns-then-opened c = λ holds.
    let is = c.in-Some.ensures.item in
    let label = c.in-Assertion.field-0 in
    let kind : IsOfKind (Assertion label) is.item = subst (λ k. IsOfKind k is.item) c.in-Assertion.is is.kind in
    subst (IsBack c.args.text.now) (sym c.if-opened.true)
    (back_closes c.args.text.now label.now c.in-Some.assertion.end is.item is.stands kind.0 kind.1
    (c.is_in_lines.ensures is.item is.stands c.if-not-is_in_lines.false) (c.is_end.ensures holds))

pub returns-else-opened : goal.returns-else-opened
returns-else-opened c = λ holds.
    let is = c.in-Some.ensures.item in
    let label = c.in-Assertion.field-0 in
    let kind : IsOfKind (Assertion label) is.item = subst (λ k. IsOfKind k is.item) c.in-Assertion.is is.kind in
    let all : c.in-Some.assertion.end ≡ length c.args.text.now = grind (arith, nat_tests) in
    subst (IsBack c.args.text.now) (sym c.if-opened.false)
    (back_alone c.args.text.now label.now c.in-Some.assertion.end is.item is.stands kind.0 kind.1
    (c.is_in_lines.ensures is.item is.stands c.if-not-is_in_lines.false) all)

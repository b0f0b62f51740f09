-- What is left to show of `is_labelled`.
use Rattle.std.proofs.Common.{◌≡◌, ◌∙◌, [], ◌∷◌, length, refl, ap, subst, rules}
use Rattle.std.proofs.lemmas.Option.{slice_get_read}
use Rattle.items.specs.declared.reading.Kind.TheVariants.{Assertion}
use Rattle.items.specs.Reading.{IsOfKind}
use Rattle.arranging.proofs.Known.{found_at}
use Rattle.arranging.proofs.held.is_labelled.Goals as goal

pub returns-in-Assertion : goal.returns-in-Assertion
returns-in-Assertion c = λ text old found holds.
    let items = c.args.items.now in
    let place = c.args.place in
    let item = c.in-Some.item.now in
    let at = c.in-Some.ensures.lookup.3 in
    let here = found_at text 0 items old place item found (slice_get_read items (length items) place item refl at.0 (at.1 item)) in
    let other = c.in-Assertion.other in
    let kind : IsOfKind (Assertion other) here.0 = subst (λ k. IsOfKind k here.0) c.in-Assertion.is here.2 in
    let same : other.now ≡ c.args.label.now = search rules in
    (here.0, here.1, kind.1 ∙ ap (λ w. w ∷ []) same)

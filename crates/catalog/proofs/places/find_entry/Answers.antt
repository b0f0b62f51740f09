-- What is left to show of `find_entry`: at the place that was found stands the assertion that was found.
use Rattle.std.proofs.Common.{◌≡◌, None, Some, sym, ap, ◌∙◌}
use Rattle.library.specs.Library.{label_of}
use Rattle.catalog.specs.Entries.{StandsIn}
use Rattle.catalog.proofs.Reading.{item-past, item-read}
use Rattle.catalog.proofs.places.find_entry.Goals as goal

pub returns-in_err-get-clause-none : goal.returns-in_err-get-clause-none
returns-in_err-get-clause-none c =
    let past = item-past c.args.entries.now c.in_ok-place.place c.in_err-get.ensures.lookup in
    let both : None ≡ Some (Some c.in_ok-place.ensures.entry) = sym past ∙ c.in_ok-place.ensures.at in
    absurd cc

pub returns-in_err-entry-clause-none : goal.returns-in_err-entry-clause-none
returns-in_err-entry-clause-none c =
    let stands = c.in_ok-place.ensures in
    let read = item-read c.args.entries.now c.in_ok-place.place c.in_ok-get.field-0 c.in_ok-get.ensures.lookup in
    let empty : c.in_ok-get.field-0.now ≡ None = sym c.in_err-entry.ensures.value in
    let both : Some (Some stands.entry) ≡ Some None = sym stands.at ∙ read ∙ ap (λ o. Some o) empty in
    absurd cc

pub returns-clause-some : goal.returns-clause-some
returns-clause-some c =
    let xs = c.args.entries.now in
    let place = c.in_ok-place.place in
    let stands = c.in_ok-place.ensures in
    let e = c.in_ok-entry.entry.now in
    let there : c.in_ok-get.field-0.now ≡ Some e = sym c.in_ok-entry.ensures.value in
    let at : StandsIn xs place e = item-read xs place c.in_ok-get.field-0 c.in_ok-get.ensures.lookup ∙ ap (λ o. Some o) there in
    let both : Some (Some stands.entry) ≡ Some (Some e) = sym stands.at ∙ at in
    let one : stands.entry ≡ e = cc in
    (at, ap label_of (sym one) ∙ stands.labelled)

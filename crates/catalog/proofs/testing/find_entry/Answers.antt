use Rattle.std.proofs.Common.{◌≡◌, None, Some, sym, ◌∙◌}
use Rattle.library.proofs.Places.{find_nowhere}
use Rattle.catalog.specs.Entries.{living}
use Rattle.catalog.proofs.Living.{found-at, stands-read}
use Rattle.catalog.proofs.Reading.{item-past, item-read}
use Rattle.catalog.proofs.testing.find_entry.Goals as goal

pub returns-in_err-place : goal.returns-in_err-place
returns-in_err-place c =
    rw c.from_residual.ensures (sym (find_nowhere (living c.args.entries.now) c.args.label.now c.in_err-place.ensures))

pub returns-in_err-get : goal.returns-in_err-get
returns-in_err-get c =
    let past = item-past c.args.entries.now c.in_ok-place.place c.in_err-get.ensures.lookup in
    let both : None ≡ Some (Some c.in_ok-place.ensures.entry) = sym past ∙ c.in_ok-place.ensures.at in
    absurd cc

pub returns : goal.returns
returns c =
    let xs = c.args.entries.now in
    let place = c.in_ok-place.place in
    let stands = c.in_ok-place.ensures in
    let read = item-read xs place c.in_ok-get.field-0 c.in_ok-get.ensures.lookup in
    c.as_ref.ensures.value ∙ stands-read xs place stands.entry c.in_ok-get.field-0.now stands.at read
    ∙ sym (found-at c.args.places.now xs c.args.label.now place stands.entry c.requires stands.at stands.labelled)

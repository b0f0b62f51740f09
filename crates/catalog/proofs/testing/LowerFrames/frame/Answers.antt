use Rattle.std.proofs.Common.{◌≡◌, ◌<◌, ◌≤◌, None, Some, sym, ◌∙◌}
use Rattle.catalog.proofs.Citable.{frame-unknown, frame-above, frame-below}
use Rattle.catalog.proofs.Living.{stands-read}
use Rattle.catalog.proofs.Reading.{item-past, item-read, item-copied}
use Rattle.catalog.proofs.testing.LowerFrames.frame.Goals as goal

pub returns-in_err-place : goal.returns-in_err-place
returns-in_err-place c =
    let s = c.args.self.now in
    rw (c.from_residual.ensures, ← c.as_slice.ensures)
    (sym (frame-unknown s.prelude.now s.entries.now s.rank c.as_slice.result.now c.in_err-place.ensures))

pub returns-in_err-get : goal.returns-in_err-get
returns-in_err-get c =
    let past = item-past c.args.self.now.entries.now c.in_ok-place.place c.in_err-get.ensures.lookup in
    let both : None ≡ Some (Some c.in_ok-place.ensures.entry) = sym past ∙ c.in_ok-place.ensures.at in
    absurd cc

pub returns-in_err-entry : goal.returns-in_err-entry
returns-in_err-entry c =
    let xs = c.args.self.now.entries.now in
    let stands = c.in_ok-place.ensures in
    let read = item-read xs c.in_ok-place.place c.in_ok-get.field-0 c.in_ok-get.ensures.lookup in
    let there : c.in_ok-get.field-0.now ≡ Some stands.entry =
    stands-read xs c.in_ok-place.place stands.entry c.in_ok-get.field-0.now stands.at read in
    let empty : c.in_ok-get.field-0.now ≡ None = sym c.in_err-entry.ensures.value in
    absurd cc

pub returns-then-entry-self : goal.returns-then-entry-self
returns-then-entry-self c =
    let s = c.args.self.now in
    let xs = s.entries.now in
    let place = c.in_ok-place.place in
    let stands = c.in_ok-place.ensures in
    let read = item-read xs place c.in_ok-get.field-0 c.in_ok-get.ensures.lookup in
    let there : c.in_ok-get.field-0.now ≡ Some stands.entry = stands-read xs place stands.entry c.in_ok-get.field-0.now stands.at read in
    let own : Some c.in_ok-entry.entry.now ≡ c.in_ok-get.field-0.now = c.in_ok-entry.ensures.value in
    let one : stands.entry ≡ c.in_ok-entry.entry.now = cc in
    let below : stands.entry.rank < s.rank = rw one c.if-entry-self.true in
    let given = frame-below s.prelude.now s.places.now xs s.rank place stands.entry s.indexed stands.at below in
    let found = item-copied s.frames.now place c.get-then-entry-self.result c.get-then-entry-self.ensures.lookup in
    rw (← c.as_slice.ensures, ← stands.labelled, given) (found ∙ s.framed.framed place stands.entry stands.at)

pub returns-else-entry-self : goal.returns-else-entry-self
returns-else-entry-self c =
    let s = c.args.self.now in
    let xs = s.entries.now in
    let place = c.in_ok-place.place in
    let stands = c.in_ok-place.ensures in
    let read = item-read xs place c.in_ok-get.field-0 c.in_ok-get.ensures.lookup in
    let there : c.in_ok-get.field-0.now ≡ Some stands.entry = stands-read xs place stands.entry c.in_ok-get.field-0.now stands.at read in
    let own : Some c.in_ok-entry.entry.now ≡ c.in_ok-get.field-0.now = c.in_ok-entry.ensures.value in
    let one : stands.entry ≡ c.in_ok-entry.entry.now = cc in
    let above : s.rank ≤ stands.entry.rank = rw one c.if-entry-self.false in
    rw (← c.as_slice.ensures, ← stands.labelled)
    (sym (frame-above s.prelude.now s.places.now xs s.rank place stands.entry s.indexed stands.at above))

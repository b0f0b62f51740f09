use Rattle.std.proofs.Common.{◌∙◌, length, refl, sym}
use Rattle.std.proofs.lemmas.Option.{slice_get_read}
use Rattle.arranging.proofs.Known.{found_at}
use Rattle.arranging.proofs.checking.Checker.keeps.Goals as goal

pub returns-in-Some : goal.returns-in-Some
returns-in-Some c = λ e source old known holds.
    let items = c.args.self.now.items.now in
    let item = c.args.item in
    let found = c.in-Some.found.now in
    let at = c.in-Some.ensures.lookup.3 in
    let here =
    found_at source 0 items old item found known.known.found
    (slice_get_read items (length items) item found refl at.0 (at.1 found)) in
    (here.0, here.1, sym (c.keeps.ensures e here.0 known.known.library_are known.known.moving_are here.2) ∙ holds)

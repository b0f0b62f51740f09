use Rattle.std.proofs.Common.{◌<◌, ◌+◌, [], length, get_or, ap, arith}
use Rattle.std.specs.Prelude.{slice_range}
use Rattle.std.proofs.lemmas.List.{length-map}
use Rattle.std.proofs.lemmas.Option.{slice_get-get_or}
use Rattle.arranging.specs.Parts.{part_of}
use Rattle.arranging.proofs.Under.{cut_before}
use Rattle.arranging.proofs.checking.Checker.is_section_behind.Goals as goal

pub returns-then-item-place : goal.returns-then-item-place
returns-then-item-place c = λ e source old known holds.
    let item = c.args.item in
    let place = c.args.place in
    let within = c.is_section.ensures.within holds in
    let before = c.if-item-place.true in
    let lt : item < length old =
    omega (arith, within, before, ap length known.known.parts_are, length-map old (part_of e.gone e.moving)) in
    let at = slice_get-get_or old item [] lt in (
      get_or old item [],
      slice_range old (item + 1) place,
      at,
      cut_before old item place (get_or old item []) at before,
      c.is_section.ensures.same e source old known holds,
    )

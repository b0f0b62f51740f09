-- What is left to show of `is_held_behind`.
use Rattle.std.proofs.Common.{◌∙◌, ◌<◌, [], length, refl, sym, arith, get_or}
use Rattle.std.proofs.lemmas.Bool.{false≢true}
use Rattle.std.proofs.lemmas.Option.{slice_get-get_or}
use Rattle.items.proofs.Found.{many_found}
use Rattle.arranging.specs.Parts.{Edited, known_labels}
use Rattle.arranging.specs.Places.{IsKnown}
use Rattle.arranging.proofs.Spelled.{found_spell}
use Rattle.arranging.proofs.held.is_held_behind.Goals as goal
use Rattle.arranging.proofs.held.is_held_behind.Goals.{then-declares, else-declares}

pub returns : goal.returns
returns c =
    let source = c.args.source.now in
    let found = c.args.items.now in
    let none = known_labels c.args.none.now in
    let name = c.args.name.now in
    let e : Edited = record { gone = none; moving = none; moved = none; library = none; comings = [] } in
    let items = c.requires.0 in
    let are = c.requires.1 in
    let known : IsKnown e source items c.in_ok-checker.checker =
    c.in_ok-checker.ensures e items (record {
      found = are;
      parts_are = c.as_slice.ensures.value ∙ c.in_ok-parts.ensures items are;
      moving_are = refl;
      moved_are = refl;
      library_are = refl;
    }) in
    let spelled = found_spell source found items are in
    let labelled = c.is_labelled.ensures source items are c.if-not-is_labelled.false in
    let behind = c.args.declaration in
    let within : behind < length items = omega (arith, c.if-declaration-items.false, many_found source 0 found items are) in
    let at = slice_get-get_or items behind [] within in
    let later : c.args.place < behind = omega (arith, c.if-place-declaration.false) in
    λ holds. elim c.if-declares.branch [
      | then-declares w ↦ record {
        items = items;
        rest = spelled.0;
        spells = spelled.1;
        place = c.args.place;
        neighbour = labelled.0;
        stands = labelled.1;
        labelled = labelled.2;
        behind = behind;
        later = later;
        declaration = get_or items behind [];
        there = at;
        declares = c.declares.ensures e source items known w.if-declares.true (get_or items behind []) at;
        mentions = w.mentions.ensures e source items known (sym w.result-is ∙ holds);
      }
      | else-declares w ↦ absurd (false≢true (sym w.if-declares.false ∙ sym w.result-is ∙ holds))
    ]

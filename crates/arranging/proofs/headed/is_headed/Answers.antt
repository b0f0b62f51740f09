-- What is left to show of `is_headed`.
use Rattle.std.proofs.Common.{◌≡◌, ◌∙◌, List, [], map, ap, subst}
use Rattle.giving.specs.Staying.{Change}
use Rattle.leaving.specs.declared.part.Part.{Part}
use Rattle.arranging.specs.Parts.{part_of, known_labels}
use Rattle.arranging.specs.Headed.{HasHeading}
use Rattle.arranging.proofs.Spelled.{found_spell}
use Rattle.arranging.proofs.headed.is_headed.Goals as goal

pub returns : goal.returns
returns c = λ holds.
    let source = c.args.source.now in
    let items = c.requires.items.0 in
    let are = c.requires.items.1 in
    let labelled = c.is_labelled.ensures source items are c.if-not-is_labelled.false in
    let spelled = found_spell source c.args.items.now items are in
    let parts : c.as_slice-parts.result.now ≡ map (part_of [] []) items =
    c.as_slice-parts.ensures.value
    ∙ (c.in_ok-parts.ensures items are
    ∙ ap (λ (cs : List Change). map (part_of (known_labels cs) (known_labels cs)) items) c.requires.none) in record {
      items = items;
      rest = spelled.0;
      spells = spelled.1;
      place = c.args.neighbour.place;
      assertion = labelled.0;
      stands = labelled.1;
      labelled = labelled.2;
      heading = subst (λ (ps : List Part). HasHeading c.args.neighbour.side ps c.args.neighbour.place) parts (c.has_heading.ensures holds);
    }

-- What is left to show of `parts_of`.
use Rattle.std.proofs.Common.{◌≡◌, ◌∙◌, ◌<◌, List, [], ◌∷◌, ◌++◌, length, map, take, get_or, sym, ap, arith}
use Rattle.std.proofs.Math.Seq.{take-length}
use Rattle.std.proofs.lemmas.List.{map-append}
use Rattle.items.specs.declared.reading.Item.{Item as Found}
use Rattle.items.specs.declared.reading.Kind.TheVariants.{Comment}
use Rattle.items.specs.Items.{Item}
use Rattle.items.specs.Reading.{AreFound}
use Rattle.arranging.specs.Parts.{part_of, known_labels}
use Rattle.items.proofs.Found.{found_next, many_found}
use Rattle.arranging.proofs.describing.parts_of.Goals as goal

pub loop-item-preserved : goal.loop-item-preserved
loop-item-preserved c =
    let text = c.args.source.now in
    let fs = c.args.items.now in
    let k = c.loop-item.item-index in
    let part = part_of (known_labels c.args.gone.now) (known_labels c.args.moving.now) in
    let none : Found = record { kind = Comment; end = 0 } in
    let lt : k < length fs = omega arith in
    let so_far = c.loop-item.invariant.so_far in
    let is_next = λ (old : List Item) (h : AreFound text 0 fs old).
    found_next text c.loop-item.at fs old k none lt (so_far old h).0 in record {
      within = (is_next c.requires.0 c.requires.1).within;
      so_far = λ old h.
          let n = is_next old h in (
            n.left,
            c.in_ok-push.ensures.items
                ∙ (ap (λ p. c.loop-item.parts.items ++ p ∷ []) (c.part_of.ensures n.item (get_or fs k none).end n.stands n.kind)
                ∙ (ap (λ ps. ps ++ part n.item ∷ []) (so_far old h).1
                ∙ sym (ap (map part) n.so_far ∙ map-append part (take k old) (n.item ∷ [])))),
          );
    }

pub returns : goal.returns
returns c = λ old h.
    let fs = c.args.items.now in
    let part = part_of (known_labels c.args.gone.now) (known_labels c.args.moving.now) in
    let many = many_found c.args.source.now 0 fs old h in
    let all : c.loop-item.item-index ≡ length old = omega (arith, many) in
    (c.loop-item.invariant.so_far old h).1 ∙ ap (map part) (ap (λ n. take n old) all ∙ take-length old)

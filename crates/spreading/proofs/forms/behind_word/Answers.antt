-- What is left to show of `behind_word`.
use Rattle.std.proofs.Common.{◌∙◌, ap, length, map, arith, length-drop}
use Rattle.std.proofs.lemmas.List.{length-map}
use Rattle.mmtext.specs.Views.{seen}
use Rattle.spreading.proofs.Counted.{unit_within, place_within}
use Rattle.spreading.proofs.forms.behind_word.Goals as goal

pub overflow_add-result : goal.overflow_add-result
overflow_add-result c =
    let words = c.args.words.now in
    let unit = unit_within (map seen c.behind.result.now) in
    let place = place_within (map seen words) in
    let long = length-map c.behind.result.now seen in
    let rest = ap length c.behind.ensures ∙ length-drop c.place_length-place.result words in
    omega arith

-- What is left to show of `labels_among`.
use Rattle.std.proofs.Common.{◌∙◌, map, sym, Some}
use Rattle.std.proofs.lemmas.List.{take-map}
use Rattle.mmtext.specs.Views.{seen}
use Rattle.pasting.proofs.Spoken.{labels_opened}
use Rattle.pasting.proofs.words.labels_among.Goals as goal

pub returns-in-Some-closing_in : goal.returns-in-Some-closing_in
returns-in-Some-closing_in c =
    let end = c.in-Some-closing_in.end in
    sym (take-map seen end c.in-Some.behind.now)
    ∙ labels_opened (map seen c.args.words.now) (map seen c.in-Some.behind.now) c.in-Some.ensures (Some end)
    (sym c.in-Some-closing_in.ensures.value)

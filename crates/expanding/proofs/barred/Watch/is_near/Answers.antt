-- What is left to show of `is_near`.
use Rattle.std.proofs.Common.{◌∙◌, ap}
use Rattle.std.specs.List.{list_any}
use Rattle.source.proofs.Slices.{any_seen}
use Rattle.expanding.specs.Bars.{holds, names_any}
use Rattle.expanding.proofs.barred.Watch.is_near.Goals as goal

pub returns-in-Some : goal.returns-in-Some
returns-in-Some g c =
    let test = holds c.args.self.now.labels in
    c.names_one.ensures
    ∙ (any_seen test c.labels_in.result.now ∙ (ap (list_any test) c.labels_in.ensures ∙ ap (names_any test) c.in-Some.ensures))

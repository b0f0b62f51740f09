-- What is left to show of `labelled`.
use Rattle.std.proofs.Common.{◌∙◌}
use Rattle.sourceediting.proofs.Labelled.{found_labelled}
use Rattle.sourceediting.proofs.planning.labelled.Goals as goal

pub returns : goal.returns
returns c = found_labelled c.args.map.now c.args.label.now c.copied.result (c.copied.ensures ∙ c.get.ensures.value)

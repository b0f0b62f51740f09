-- What is left to show of `found_at`.
use Rattle.std.proofs.Common.{◌∙◌}
use Rattle.sourceediting.proofs.Labelled.{found_labelled}
use Rattle.sourceediting.proofs.planning.found_at.Goals as goal

pub returns-clause-labelled : goal.returns-clause-labelled
returns-clause-labelled c = found_labelled c.args.map.now c.args.label.now c.copied.result (c.copied.ensures ∙ c.get.ensures.value)

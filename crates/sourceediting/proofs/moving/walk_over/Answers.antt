-- What is left to show of `walk_over`.
use Rattle.sourceediting.specs.Views.{seen_living}
use Rattle.sourceediting.proofs.moving.walk_over.Goals as goal

pub loop-entry-init : goal.loop-entry-init
loop-entry-init c = c.new-walk.ensures (seen_living c.args.edits.now.planned.living.now)

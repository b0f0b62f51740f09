-- What is left to show of `moving_of`.
use Rattle.sourceediting.specs.Views.{seen_living}
use Rattle.sourceediting.proofs.moving.moving_of.Goals as goal

pub returns : goal.returns
returns g c = c.into_moving.ensures (seen_living c.args.edits.now.planned.living.now) c.in_ok-walk.ensures

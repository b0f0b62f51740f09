-- What is left to show of `places_of`.
use Rattle.sourceframes.specs.Names.{looks_up}
use Rattle.sourceframes.proofs.Placing.{placed_on}
use Rattle.sourceframes.proofs.variables.places_of.Goals as goal

pub loop-place-preserved : goal.loop-place-preserved
loop-place-preserved c =
    placed_on c.args.listed.now c.loop-place.place _ (looks_up c.loop-place.places) (looks_up c.note_place.new.places)
    c.loop-place-test.true c.in_ok-note_place.ensures c.loop-place.invariant

use Rattle.proofcheck.proofs.Places.{places_more}
use Rattle.proofcheck.proofs.labels.places_of.Goals as goal

pub loop-i-preserved : goal.loop-i-preserved
loop-i-preserved c = λ label.
    places_more _ _ label c.args.assertions.now c.loop-i.i c.index-assertions-i.result c.loop-i-test.true c.index-assertions-i.is
    (c.loop-i.invariant label) (rw c.as_slice.ensures at (c.in_ok-note_place.ensures label))

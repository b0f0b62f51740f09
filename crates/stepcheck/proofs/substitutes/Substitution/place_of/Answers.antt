use Rattle.stepcheck.proofs.Replaced.{place-of}
use Rattle.stepcheck.proofs.substitutes.Substitution.place_of.Goals as goal

pub returns : goal.returns
returns c =
    rw (← c.self.view_is) (place-of c.self.inside.floats.now c.self.inside.args.now c.args.variable c.first_place.result
    c.self.invariant.0 c.first_place.ensures)

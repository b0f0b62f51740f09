use Rattle.std.proofs.Common.{◌<◌, length, drop, sym, ap, ◌∙◌, arith}
use Rattle.stepcheck.proofs.Replaced.{substitution-length, substitute-at}
use Rattle.stepcheck.proofs.substitutes.Substitution.at.Goals as goal

pub at-requires : goal.at-requires
at-requires c =
    let long = substitution-length c.self.inside.floats.now c.self.inside.args.now c.self.invariant.0 in
    let seen = ap length c.self.view_is in
    omega (arith, long, seen, c.self.invariant.0)

pub returns : goal.returns
returns c = λ d.
    let fs = c.self.inside.floats.now in
    let es = c.self.inside.args.now in
    let long = substitution-length fs es c.self.invariant.0 in
    let seen = ap length c.self.view_is in
    let lt : c.args.place < length fs = omega (arith, long, seen) in
    let here = substitute-at fs es c.args.place c.at.result.now d lt c.self.invariant.0 in
    rw (← c.self.view_is) (c.without_type.ensures ∙ ap (drop 1) c.at.ensures ∙ sym here)

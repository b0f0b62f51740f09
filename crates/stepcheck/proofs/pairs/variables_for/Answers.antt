use Rattle.std.proofs.Common.{◌<◌, [], length, rules, arith}
use Rattle.std.proofs.lemmas.Slice.Zip.{AllZip-long}
use Rattle.derivation.specs.Lookups.{AreVariablesOf}
use Rattle.stepcheck.proofs.Replaced.{zip-at}
use Rattle.stepcheck.proofs.pairs.variables_for.Goals as goal

pub bounds-found-place : goal.bounds-found-place
bounds-found-place c =
    let long = AllZip-long (λ s vs. AreVariablesOf vs.items s.1) c.args.substitution.now c.args.found.now c.requires in
    let lt = c.in-Some.ensures.0 in
    omega arith

pub offset_bounds-found-place : goal.offset_bounds-found-place
offset_bounds-found-place c =
    let long = AllZip-long (λ s vs. AreVariablesOf vs.items s.1) c.args.substitution.now c.args.found.now c.requires in
    let lt = c.in-Some.ensures.0 in
    let within : c.in-Some.place < length c.args.found.now = omega arith in
    search rules

pub returns-in-Some : goal.returns-in-Some
returns-in-Some c =
    let vs = c.index-found-place.result in
    let here = zip-at (λ s us. AreVariablesOf us.items s.1) c.args.substitution.now c.args.found.now c.in-Some.place (0, []) vs c.requires
    c.in-Some.ensures.0 in
    rw (c.as_slice.ensures.value, c.in-Some.ensures.1 (0, [])) (rw (← c.index-found-place.is) at here)

-- What is left to show of `mark`.
use Rattle.std.proofs.Common.{◌<◌, subst, sym}
use Rattle.choosing.proofs.Marked.{marked_none, marked_found, found_at}
use Rattle.choosing.proofs.marks.mark.Goals as goal

pub returns-in-None-clause-marked : goal.returns-in-None-clause-marked
returns-in-None-clause-marked g c =
    λ test are. marked_none (g.D.Declared.scope c.args.declared.now).assertions c.args.label.now test c.args.marks.now
    (sym c.in-None.ensures) are

pub bounds-marks-place : goal.bounds-marks-place
bounds-marks-place g c =
    let x = found_at (g.D.Declared.scope c.args.declared.now).assertions c.args.label.now c.in-Some.place (sym c.in-Some.ensures) in
    subst (λ n. c.in-Some.place < n) (sym c.requires.long) x.3

pub returns-in-Some-clause-marked : goal.returns-in-Some-clause-marked
returns-in-Some-clause-marked g c =
    λ test are. marked_found (g.D.Declared.scope c.args.declared.now).assertions c.args.label.now c.in-Some.place test c.args.marks.now
    c.requires.distinct (sym c.in-Some.ensures) are

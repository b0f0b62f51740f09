-- What is left to show of `found_at`.
use Rattle.std.proofs.Common.{◌≤◌, length, refl, subst, arith}
use Rattle.std.specs.Prelude.{Option, IfSome}
use Rattle.sourceframes.specs.declared.table.Table.{Table}
use Rattle.sourcecheck.specs.Checkers.{Knows}
use Rattle.sourcecheck.proofs.Beside.{knows_front, knows_more}
use Rattle.sourcecheck.proofs.checkers.found_at.Goals as goal

pub check_theorem-requires : goal.check_theorem-requires
check_theorem-requires g c κs =
    let xs = (g.D.Declared.scope c.args.declared.now).assertions in
    let fs = c.args.frames.now in
    let t : Table = c.in-Some.table in
    let knows : Knows xs fs t = subst (λ (o : Option Table). IfSome o (Knows xs fs)) c.in-Some.is c.requires.knows in
    let many = knows.many in
    let within = c.requires.within in
    let few : c.args.place ≤ length fs = omega (arith, many, within) in (
      (refl, tt),
      (
        knows.sound,
        (
          c.requires.whole,
          (
            within,
            (
              few,
              knows_front xs fs t c.args.place knows,
            ),
          ),
        ),
      ),
    )

pub returns-in-Ok-clause-knows : goal.returns-in-Ok-clause-knows
returns-in-Ok-clause-knows g c =
    let xs = (g.D.Declared.scope c.args.declared.now).assertions in
    let fs = c.args.frames.now in
    let t : Table = c.in-Some.table in
    let knows : Knows xs fs t = subst (λ (o : Option Table). IfSome o (Knows xs fs)) c.in-Some.is c.requires.knows in
    knows_more xs fs t c.check_theorem.new.table knows c.in-Ok.ensures.keeps

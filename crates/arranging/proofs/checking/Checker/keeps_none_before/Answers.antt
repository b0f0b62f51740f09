use Rattle.std.proofs.Common.{◌≤◌, arith, subst}
use Rattle.std.proofs.lemmas.Bool.Decides.{nat_tests}
use Rattle.arranging.specs.Sections.{keeps}
use Rattle.arranging.specs.Places.{IsFirstKept}
use Rattle.arranging.proofs.Under.{none_in_front, none_up_to}
use Rattle.arranging.proofs.checking.Checker.keeps_none_before.Goals as goal

pub returns-in-Some : goal.returns-in-Some
returns-in-Some c = λ e source old known holds.
    let le : c.args.place ≤ c.in-Some.first = grind (arith, nat_tests) in
    none_up_to (keeps e) old c.args.place c.in-Some.first le (subst (IsFirstKept e old) c.in-Some.is known.first_kept)

pub returns-in-None : goal.returns-in-None
returns-in-None c = λ e source old known holds.
    none_in_front (keeps e) old c.args.place (subst (IsFirstKept e old) c.in-None.is known.first_kept)

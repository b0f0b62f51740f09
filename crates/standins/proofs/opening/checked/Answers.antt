-- What is left to show of `checked`: where a proof has a fault not all check.
use Rattle.std.proofs.Common.{sym, subst}
use Rattle.derivation.specs.Databases.{AllCheck}
use Rattle.standins.proofs.Leaned.{why_unopened}
use Rattle.standins.proofs.opening.checked.Goals as goal

pub returns-in-Err-clause-refused : goal.returns-in-Err-clause-refused
returns-in-Err-clause-refused g c = λ db ss is.
    why_unopened db ss c.unchecked.result (λ other checks.
    other (c.unchecked.ensures (c.in-Err.ensures.proved (subst AllCheck (sym is) checks))))

-- What is left to show of `raise`: ranks stay within the limits.
use Rattle.std.proofs.Common.{◌≡◌, ◌∙◌, sym, ap, subst}
use Rattle.std.specs.Prelude.{All}
use Rattle.std.proofs.lemmas.List.{take_all}
use Rattle.library.specs.Fitting.{CommandFits}
use Rattle.standins.specs.StandIns.{Scripts, raised}
use Rattle.standins.proofs.Raised.{raised_fit}
use Rattle.standins.proofs.raising.raise.Goals as goal

pub returns-clause-fit : goal.returns-clause-fit
returns-clause-fit c = λ t fit.
    let scripts = c.args.scripts.now in
    let made = c.loop-script.made.items in
    let is : made ≡ raised c.args.by scripts =
    c.loop-script.invariant
    ∙ ap (raised c.args.by) (take_all c.loop-script.script-index scripts c.loop-script-test.false) in
    subst (λ (xs : Scripts). All (All (All (CommandFits t))) xs) (sym is) (raised_fit t c.args.by scripts fit)

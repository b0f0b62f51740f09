-- What is left to show of `sites_for`: where there are no sites, what is chosen is too wide.
use Rattle.std.proofs.Common.{subst}
use Rattle.std.specs.Prelude.{Option, MatchOption}
use Rattle.source.specs.Flags.{kept}
use Rattle.sites.specs.Sites.{Sited, AreSites}
use Rattle.intake.specs.Intakes.{IsWide}
use Rattle.intake.proofs.Steps.{too_wide}
use Rattle.intake.proofs.call.sites_for.Goals as goal

pub returns-in-None-clause-refused : goal.returns-in-None-clause-refused
returns-in-None-clause-refused g c =
    let s = g.D.Declared.scope c.args.declared.now in
    let taken = kept c.args.chosen.now s.assertions in
    λ w is.
    too_wide s w c.args.chosen.now is
    (subst (λ (o : Option Sited). MatchOption o (IsWide s taken) (AreSites s taken)) c.in-None.is c.in_ok-sites.ensures)

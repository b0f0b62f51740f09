-- What is left to show of `constant_fault`.
use Rattle.std.proofs.Common.{◌≡◌, subst}
use Rattle.mmsyntax.specs.Rows.{first_fault}
use Rattle.source.specs.Scopes.{Scope}
use Rattle.source.specs.Tests.{constant_tests}
use Rattle.scopes.specs.Views.{kept_of}
use Rattle.scopes.proofs.Seeing.{seen_scope}
use Rattle.scopes.proofs.scopes.ScopesStanding.constant_fault.Goals as goal

pub returns : goal.returns
returns c =
    let w = c.args.word.now in
    subst (λ (s : Scope). c.constant_fault.result ≡ first_fault (constant_tests s w))
    (seen_scope (kept_of c.self.inside.tables) c.args.self.now c.self.view_is)
    c.constant_fault.ensures

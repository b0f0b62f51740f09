-- What is left to show of `distinct_fault`.
use Rattle.std.proofs.Common.{◌≡◌, subst}
use Rattle.mmsyntax.specs.Rows.{first_fault}
use Rattle.source.specs.Scopes.{Scope}
use Rattle.source.specs.Tests.{distinct_tests}
use Rattle.source.specs.Views.{seen_words}
use Rattle.scopes.specs.Views.{kept_of}
use Rattle.scopes.proofs.Seeing.{seen_scope}
use Rattle.scopes.proofs.scopes.ScopesStanding.distinct_fault.Goals as goal

pub returns : goal.returns
returns c =
    let w = c.args.word.now in
    subst (λ (s : Scope). c.distinct_fault.result ≡ first_fault (distinct_tests s (seen_words c.args.others.now) w))
    (seen_scope (kept_of c.self.inside.tables) c.args.self.now c.self.view_is)
    c.distinct_fault.ensures

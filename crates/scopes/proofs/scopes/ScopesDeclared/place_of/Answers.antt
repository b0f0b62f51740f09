-- What is left to show of `place_of`.
use Rattle.std.proofs.Common.{◌≡◌, subst}
use Rattle.std.specs.Str.{bytes_eq}
use Rattle.mmsyntax.specs.Tables.{place_of}
use Rattle.source.specs.Scopes.{Scope}
use Rattle.scopes.specs.Views.{kept_of}
use Rattle.scopes.proofs.Seeing.{seen_scope}
use Rattle.scopes.proofs.scopes.ScopesDeclared.place_of.Goals as goal

pub returns : goal.returns
returns c =
    subst (λ (s : Scope). c.place_of.result ≡ place_of (λ a. bytes_eq c.args.label.now a.label) s.assertions)
    (seen_scope (kept_of c.self.inside.tables) c.args.self.now c.self.view_is) c.place_of.ensures

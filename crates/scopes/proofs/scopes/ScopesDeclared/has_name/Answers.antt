-- What is left to show of `has_name`.
use Rattle.std.proofs.Common.{◌≡◌, subst}
use Rattle.std.specs.Prelude.{◌||◌}
use Rattle.source.specs.Scopes.{Scope, is_in}
use Rattle.scopes.specs.Views.{kept_of}
use Rattle.scopes.proofs.Seeing.{seen_scope}
use Rattle.scopes.proofs.scopes.ScopesDeclared.has_name.Goals as goal

pub returns : goal.returns
returns c =
    subst (λ (s : Scope). c.has_name.result ≡ (is_in s.symbols c.args.word.now || is_in s.labels c.args.word.now))
    (seen_scope (kept_of c.self.inside.tables) c.args.self.now c.self.view_is) c.has_name.ensures

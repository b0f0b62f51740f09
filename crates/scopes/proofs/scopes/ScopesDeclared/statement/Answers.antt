-- What is left to show of `statement`.
use Rattle.std.proofs.Common.{◌≡◌, subst}
use Rattle.std.specs.List.{slice_get}
use Rattle.std.specs.Option.{option_map}
use Rattle.source.specs.Views.{seen_words}
use Rattle.source.specs.Scopes.{Scope}
use Rattle.scopes.specs.Views.{kept_of}
use Rattle.scopes.proofs.Seeing.{seen_scope}
use Rattle.scopes.proofs.scopes.ScopesDeclared.statement.Goals as goal

pub returns : goal.returns
returns c =
    subst (λ (s : Scope). option_map (λ ws. seen_words ws.now) c.statement.result
    ≡ option_map (λ a. a.statement) (slice_get s.assertions c.args.place))
    (seen_scope (kept_of c.self.inside.tables) c.args.self.now c.self.view_is) c.statement.ensures

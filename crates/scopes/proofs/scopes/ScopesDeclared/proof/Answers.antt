-- What is left to show of `proof`.
use Rattle.std.proofs.Common.{◌≡◌, subst}
use Rattle.std.specs.List.{slice_get}
use Rattle.std.specs.Option.{option_map, option_and_then}
use Rattle.source.specs.Views.{seen_proof}
use Rattle.source.specs.Scopes.{Scope}
use Rattle.scopes.specs.Views.{kept_of}
use Rattle.scopes.proofs.Seeing.{seen_scope}
use Rattle.scopes.proofs.scopes.ScopesDeclared.proof.Goals as goal

pub returns : goal.returns
returns c =
    subst (λ (s : Scope). option_map (λ p. seen_proof p.now) c.proof.result
    ≡ option_and_then (λ a. a.proof) (slice_get s.assertions c.args.place))
    (seen_scope (kept_of c.self.inside.tables) c.args.self.now c.self.view_is) c.proof.ensures

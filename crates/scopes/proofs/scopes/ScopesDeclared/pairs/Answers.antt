-- What is left to show of `pairs`.
use Rattle.std.proofs.Common.{◌≡◌, ◌<◌, Some, length, subst, sym}
use Rattle.std.specs.Prelude.{IfOk}
use Rattle.std.specs.List.{slice_get}
use Rattle.std.specs.Option.{option_map}
use Rattle.source.specs.Views.{seen_pairs}
use Rattle.source.specs.Scopes.{Scope}
use Rattle.scopes.specs.Views.{kept_of}
use Rattle.scopes.proofs.Seeing.{seen_scope}
use Rattle.scopes.proofs.scopes.ScopesDeclared.pairs.Goals as goal

pub pairs-requires : goal.pairs-requires
pairs-requires c =
    subst (λ (s : Scope). c.args.place < length s.assertions)
    (sym (seen_scope (kept_of c.self.inside.tables) c.args.self.now c.self.view_is)) c.requires

pub returns : goal.returns
returns c =
    subst (λ (s : Scope). IfOk c.pairs.result (λ xs. option_map (λ a. a.pairs) (slice_get s.assertions c.args.place)
    ≡ Some (seen_pairs xs.items)))
    (seen_scope (kept_of c.self.inside.tables) c.args.self.now c.self.view_is) c.pairs.ensures

-- What is left to show of `mandatory`.
use Rattle.std.proofs.Common.{◌≡◌, ◌<◌, Some, length, subst, sym}
use Rattle.std.specs.Prelude.{IfOk}
use Rattle.std.specs.List.{slice_get}
use Rattle.std.specs.Option.{option_map}
use Rattle.source.specs.Views.{seen_hypotheses}
use Rattle.source.specs.Scopes.{Scope}
use Rattle.scopes.specs.Views.{kept_of}
use Rattle.scopes.proofs.Seeing.{seen_scope}
use Rattle.scopes.proofs.scopes.ScopesDeclared.mandatory.Goals as goal

pub mandatory-requires-clause-within : goal.mandatory-requires-clause-within
mandatory-requires-clause-within c =
    subst (λ (s : Scope). c.args.place < length s.assertions)
    (sym (seen_scope (kept_of c.self.inside.tables) c.args.self.now c.self.view_is)) c.requires

pub returns : goal.returns
returns c =
    subst (λ (s : Scope). IfOk c.mandatory.result (λ xs. option_map (λ a. a.hypotheses) (slice_get s.assertions c.args.place)
    ≡ Some (seen_hypotheses xs.items)))
    (seen_scope (kept_of c.self.inside.tables) c.args.self.now c.self.view_is) c.mandatory.ensures

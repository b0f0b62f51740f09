-- What is left to show of `labels`.
use Rattle.std.proofs.Common.{◌≡◌, ◌∙◌, ap, rules}
use Rattle.source.specs.Views.{seen_words}
use Rattle.scopes.specs.Views.{kept_of}
use Rattle.scopes.proofs.Seeing.{seen_scope}
use Rattle.scopes.proofs.scopes.ScopesDeclared.labels.Goals as goal

pub returns : goal.returns
returns c =
    let t = c.self.inside.tables in
    let shown : c.as_slice.result.now ≡ t.labels.items = search rules in
    ap seen_words shown ∙ ap (λ s. s.labels) (seen_scope (kept_of t) c.args.self.now c.self.view_is)

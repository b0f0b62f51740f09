-- What is left to show of `assertions`.
use Rattle.std.proofs.Common.{◌≡◌, ◌∙◌, length, map, ap, sym, rules}
use Rattle.std.proofs.lemmas.List.{length-map}
use Rattle.scopes.specs.Views.{entry_of}
use Rattle.scopes.specs.Views.{kept_of}
use Rattle.scopes.proofs.Seeing.{seen_scope}
use Rattle.scopes.proofs.scopes.ScopesDeclared.assertions.Goals as goal

pub returns : goal.returns
returns c =
    let t = c.self.inside.tables in
    let count : c.len.result ≡ length t.assertions.items = search rules in
    count ∙ sym (length-map t.assertions.items entry_of) ∙ sym (length-map (map entry_of t.assertions.items) _)
    ∙ ap (λ s. length s.assertions) (seen_scope (kept_of t) c.args.self.now c.self.view_is)

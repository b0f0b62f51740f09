-- What is left to show of `is_outermost`.
use Rattle.std.proofs.Common.{◌≡◌, ◌∙◌, nat_eq, length, ap, rules}
use Rattle.std.specs.Vec.{vec_len}
use Rattle.scopes.specs.Views.{kept_of}
use Rattle.scopes.proofs.Seeing.{seen_scope, empty_outermost}
use Rattle.scopes.proofs.scopes.ScopesStanding.is_outermost.Goals as goal

pub returns : goal.returns
returns c =
    let t = c.self.inside.tables in
    let count : vec_len t.blocks ≡ length t.blocks.items = search rules in
    c.is_empty.ensures ∙ ap (λ n. nat_eq n 0) count ∙ empty_outermost t.blocks.items
    ∙ ap (λ s. s.outermost) (seen_scope (kept_of t) c.args.self.now c.self.view_is)

-- What is left to show of `count_marked`.
use Rattle.source.specs.Scopes.{is_mandatory}
use Rattle.std.proofs.Common.{◌≡◌, ◌∙◌, rules}
use Rattle.std.specs.Prelude.{count_by}
use Rattle.scopes.specs.Views.{kept_of, scope_of}
use Rattle.scopes.proofs.Marking.{count_map}
use Rattle.scopes.proofs.frames.count_marked.Goals as goal

pub returns : goal.returns
returns c = λ e marks.
    let hs = (scope_of (kept_of c.args.tables.now)).hypotheses in
    let count : c.count.result ≡ count_by (λ a. a.is_mandatory) c.args.tables.now.active.items = search rules in
    count ∙ count_map (λ a. a.is_mandatory) (is_mandatory hs e) c.args.tables.now.active.items hs marks

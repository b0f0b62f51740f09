-- What is left to show of `mandatory_count`.
use Rattle.std.proofs.Common.{◌≡◌, ◌∙◌, length, subst}
use Rattle.source.specs.Counts.{mandatory_marks}
use Rattle.source.specs.Scopes.{Scope, mandatory}
use Rattle.scopes.specs.Views.{kept_of, marks_of}
use Rattle.scopes.proofs.Seeing.{seen_scope, seen_marks}
use Rattle.scopes.proofs.scopes.ScopesStanding.mandatory_count.Goals as goal

pub returns : goal.returns
returns c = λ e marks.
    let k = kept_of c.self.inside.tables in
    let known = subst (λ (s : Scope). marks_of k ≡ mandatory_marks s e → c.count_marked.result ≡ length (mandatory s.hypotheses e))
    (seen_scope k c.args.self.now c.self.view_is) (c.count_marked.ensures e) in
    known (seen_marks k c.args.self.now c.self.view_is ∙ marks)

-- What is left to show of `cited`.
use Rattle.std.proofs.Common.{◌≡◌, ◌∙◌, Some, subst}
use Rattle.std.specs.Prelude.{IfOk}
use Rattle.std.specs.Result.{result_err}
use Rattle.mmsyntax.specs.Rows.{first_fault}
use Rattle.source.specs.Counts.{mandatory_marks, citation_of}
use Rattle.source.specs.Scopes.{Scope}
use Rattle.source.specs.Tests.{cited_tests}
use Rattle.scopes.specs.Views.{kept_of, marks_of}
use Rattle.scopes.proofs.Seeing.{seen_scope, seen_marks}
use Rattle.scopes.proofs.scopes.ScopesStanding.cited.Goals as goal

pub returns-clause-fault : goal.returns-clause-fault
returns-clause-fault c = λ e marks.
    let k = kept_of c.self.inside.tables in
    let known = subst (λ (s : Scope). marks_of k ≡ mandatory_marks s e
    → result_err c.cited.result ≡ first_fault (cited_tests s e c.args.word.now)) (seen_scope k c.args.self.now c.self.view_is)
    (c.cited.ensures.fault e) in
    known (seen_marks k c.args.self.now c.self.view_is ∙ marks)

pub returns-clause-names : goal.returns-clause-names
returns-clause-names c =
    subst (λ (s : Scope). IfOk c.cited.result (λ n. citation_of s.assertions s.hypotheses c.args.word.now ≡ Some n))
    (seen_scope (kept_of c.self.inside.tables) c.args.self.now c.self.view_is) c.cited.ensures.names

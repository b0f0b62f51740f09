-- What is left to show of `named`.
use Rattle.std.proofs.Common.{◌≡◌, Some, subst}
use Rattle.std.specs.Prelude.{IfOk}
use Rattle.std.specs.Result.{result_err}
use Rattle.mmsyntax.specs.Rows.{first_fault}
use Rattle.source.specs.Counts.{citation_of}
use Rattle.source.specs.Scopes.{Scope}
use Rattle.source.specs.Tests.{named_tests}
use Rattle.scopes.specs.Views.{kept_of}
use Rattle.scopes.proofs.Seeing.{seen_scope}
use Rattle.scopes.proofs.scopes.ScopesStanding.named.Goals as goal

pub returns-clause-fault : goal.returns-clause-fault
returns-clause-fault c =
    subst (λ (s : Scope). result_err c.named.result ≡ first_fault (named_tests s c.args.word.now))
    (seen_scope (kept_of c.self.inside.tables) c.args.self.now c.self.view_is) c.named.ensures.fault

pub returns-clause-names : goal.returns-clause-names
returns-clause-names c =
    subst (λ (s : Scope). IfOk c.named.result (λ n. citation_of s.assertions s.hypotheses c.args.word.now ≡ Some n))
    (seen_scope (kept_of c.self.inside.tables) c.args.self.now c.self.view_is) c.named.ensures.names

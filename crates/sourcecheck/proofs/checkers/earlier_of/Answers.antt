-- What is left to show of `earlier_of`.
use Rattle.std.proofs.Common.{◌∙◌, Some, ap, cond, sym}
use Rattle.std.proofs.lemmas.Bool.{lt-ltb, le-ltb}
use Rattle.sourcecheck.specs.Found.{earlier}
use Rattle.sourcecheck.proofs.checkers.earlier_of.Goals as goal

pub returns-then-other-found : goal.returns-then-other-found
returns-then-other-found c =
    let found = c.in-Some-Some.found in
    let other = c.in-Some-Some.other in
    sym (ap (λ o. earlier o c.args.other) c.in-Some-Some.is-0 ∙ ap (earlier (Some found)) c.in-Some-Some.is-1
    ∙ ap (λ b. cond b (Some other) (Some found)) (lt-ltb other.0 found.0 c.if-other-found.true))

pub returns-else-other-found : goal.returns-else-other-found
returns-else-other-found c =
    let found = c.in-Some-Some.found in
    let other = c.in-Some-Some.other in
    sym (ap (λ o. earlier o c.args.other) c.in-Some-Some.is-0 ∙ ap (earlier (Some found)) c.in-Some-Some.is-1
    ∙ ap (λ b. cond b (Some other) (Some found)) (le-ltb other.0 found.0 c.if-other-found.false))

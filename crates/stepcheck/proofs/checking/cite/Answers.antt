use Rattle.std.proofs.Common.{◌≡◌, ◌-◌, ◌+◌, ◌≤◌, length, drop, ap, ◌∙◌, arith}
use Rattle.std.proofs.lemmas.Result.{err_from_is_err_and, IfErr-weaker, on_ok_weaker}
use Rattle.derivation.specs.Derivation.{arity}
use Rattle.derivation.specs.Faults.{last}
use Rattle.derivation.proofs.Nodes.{FailsOnLast-test}
use Rattle.stepcheck.proofs.LookedUp.{gives_on_last}
use Rattle.stepcheck.proofs.checking.cite.Goals as goal

pub returns-in_err-conclusion-clause-err : goal.returns-in_err-conclusion-clause-err
returns-in_err-conclusion-clause-err c =
    let p = err_from_is_err_and c.from_residual.result c.from_residual.ensures.1 in
    let es = c.args.stack.now in
    let f = c.args.frame.now in
    let floats : length c.as_slice.result.now ≡ length f.floats = ap length c.as_slice.ensures in
    let hyps : length c.as_slice-2.result.now ≡ length f.hyps = ap length c.as_slice-2.ensures in
    let count : length c.as_slice.result.now + length c.as_slice-2.result.now ≡ arity f = omega (arith, floats, hyps) in
    let enough : arity f ≤ length es = omega (arith, count, c.len.ensures, c.if-len-count.false) in
    let args : c.last.result ≡ last (arity f) es = c.last.ensures ∙ ap (λ k. drop (length es - k) es) count in
    rw (p.1, p.2) (λ n. let fails = rw args at (c.in_err-conclusion.ensures.err n) in
    FailsOnLast-test c.args.proving.prelude.now c.args.proving.thesis.now f es _ enough fails)

pub returns-in-Unchanged-clause-ok : goal.returns-in-Unchanged-clause-ok
returns-in-Unchanged-clause-ok c =
    on_ok_weaker c.lend.result (λ more.
    gives_on_last _ _ _ c.args.stack.now c.last.result c.truncate.new.self c.lend.new.self c.in-Unchanged.statement.now _
    (rw c.len-2.ensures at c.truncate.ensures) c.last.ensures (rw c.in-Unchanged.is at c.in_ok-conclusion.ensures.ok) more)
    c.lend.ensures.value

pub returns-in-Unchanged-clause-err : goal.returns-in-Unchanged-clause-err
returns-in-Unchanged-clause-err c = IfErr-weaker c.lend.result _ _ (λ kind is n. absurd (n is)) c.lend.ensures.kinds

pub returns-in-Made-clause-ok : goal.returns-in-Made-clause-ok
returns-in-Made-clause-ok c =
    on_ok_weaker c.push.result (λ more.
    gives_on_last _ _ _ c.args.stack.now c.last.result c.truncate.new.self c.push.new.self c.as_slice-in-Made.result.now _
    (rw c.len-2.ensures at c.truncate.ensures) c.last.ensures
    (rw (c.in-Made.is, ← c.as_slice-in-Made.ensures.value) at c.in_ok-conclusion.ensures.ok) more) c.push.ensures.value

pub returns-in-Made-clause-err : goal.returns-in-Made-clause-err
returns-in-Made-clause-err c = IfErr-weaker c.push.result _ _ (λ kind is n. absurd (n is)) c.push.ensures.kinds

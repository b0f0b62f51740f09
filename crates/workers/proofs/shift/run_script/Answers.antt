-- What is left to show of `run_script`.
use Rattle.std.proofs.Common.{List, subst, ◌∙◌, arith}
use Rattle.std.proofs.lemmas.List.{take_all}
use Rattle.library.specs.declared.command.Command.{Command}
use Rattle.workers.specs.Works.{SubmitsAll}
use Rattle.workers.proofs.Steps.{submits_next, script_ran}
use Rattle.workers.proofs.shift.run_script.Goals as goal

pub loop-transaction-preserved : goal.loop-transaction-preserved
loop-transaction-preserved g c =
    let now = c.loop-transaction in
    let submits = c.submit.ensures in
    let pushed = c.push_reserved.ensures in
    record {
      own = submits.later.home ∙ now.invariant.own;
      so_far =
          submits_next c.as_slice-transactions.result.now now.transaction-index c.args.session.now now.session c.submit.new.self
          now.outcomes.items c.push_reserved.new.self.items c.transaction-item.result c.submit.result
          c.loop-transaction-test.true c.transaction-item.is pushed.items now.invariant.so_far submits;
      long = omega (arith, now.invariant.long, pushed.len);
    }

pub returns-clause-ok : goal.returns-clause-ok
returns-clause-ok g c =
    let now = c.loop-transaction in
    let script = c.as_slice-transactions.result.now in
    let whole =
    subst (λ (z : List (List Command)). SubmitsAll z c.args.session.now now.session now.outcomes.items)
    (take_all now.transaction-index script c.loop-transaction-test.false) now.invariant.so_far in
    script_ran c.args.shop.scripts.now c.args.script c.index-shop-script.result script c.args.session.now now.session c.args.rows.now.items
    c.reserve.new.self.items c.push_reserved-2.new.self.items now.outcomes c.requires.script c.as_slice-transactions.ensures
    c.reserve.ensures.items c.push_reserved-2.ensures.items whole

use Rattle.std.proofs.Common.{◌≡◌, take, vec_len}
use Rattle.transaction.specs.Members.{IsSessionOf}
use Rattle.workers.specs.Works.{SubmitsAll}
use Rattle.workers.proofs.shift.run_script.Given as goal

abbrev pub invariant-loop-transaction : goal.invariant-loop-transaction
invariant-loop-transaction g l =
    record {
      own : IsSessionOf l.shop.library.now l.session;
      so_far : SubmitsAll (take l.transaction-index l.transactions) l.fn.session l.session l.outcomes.items;
      long : vec_len l.outcomes ≡ l.transaction-index;
    }

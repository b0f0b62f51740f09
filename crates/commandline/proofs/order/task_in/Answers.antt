use Rattle.std.proofs.Common.{◌≡◌, rules, codes}
use Rattle.clap.specs.Words.{found_of, rows_of}
use Rattle.commandline.proofs.Tasks.{runs_alone}
use Rattle.commandline.proofs.order.task_in.Goals as goal

pub returns-then-eq-3-clause-none : goal.returns-then-eq-3-clause-none
returns-then-eq-3-clause-none c = λ none.
    let is : c.args.name.now ≡ codes "run" = search rules in
    runs_alone c.args.name.now (rows_of (found_of c.args.of.now)) is (c.run_in.ensures.none none)

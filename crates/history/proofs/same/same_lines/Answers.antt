use Rattle.std.proofs.Common.{rules, tests}
use Rattle.std.proofs.lemmas.Iterator.{YieldsList-from_slice, YieldsList-from_zip, same_from_all}
use Rattle.history.proofs.same.same_lines.Goals as goal

pub returns-then-a-b : goal.returns-then-a-b
returns-then-a-b c =
    same_from_all c.all.new.self _ _ _ _ c.all.ensures.ran
    (YieldsList-from_zip (YieldsList-from_slice c.args.a.now cc) (YieldsList-from_slice c.args.b.now cc))
    (search rules) (λ x q k. search (rules, tests)) (λ x q k. search (rules, tests))

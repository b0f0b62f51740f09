-- What is left to show of `choose_all`.
use Rattle.std.proofs.Common.{arith}
use Rattle.choosing.proofs.Chosen.{all_is_chosen, all_too_many}
use Rattle.choosing.proofs.choice.choose_all.Goals as goal

pub returns-then-count-gt-MOST_ASSERTIONS-clause-refused : goal.returns-then-count-gt-MOST_ASSERTIONS-clause-refused
returns-then-count-gt-MOST_ASSERTIONS-clause-refused g c =
    λ other. all_too_many (g.D.Declared.scope c.args.declared.now) c.assertions-count.result c.assertions-count.ensures (omega arith)

pub returns-clause-chosen : goal.returns-clause-chosen
returns-clause-chosen g c =
    all_is_chosen (g.D.Declared.scope c.args.declared.now) _ c.assertions-count.result c.assertions-count.ensures (omega arith)
    (c.in_ok-vec.ensures.items_if_clones_equal (λ y e. e)) (c.in_ok-vec-2.ensures.items_if_clones_equal (λ y e. e))

-- What is left to show of `choose_for`.
use Rattle.std.proofs.Common.{◌∙◌, sym}
use Rattle.source.specs.Views.{seen_words}
use Rattle.choosing.proofs.Chosen.{for_is_chosen, for_too_many}
use Rattle.choosing.proofs.choice.choose_for.Goals as goal

pub returns-then-count-gt-MOST_ASSERTIONS-clause-refused : goal.returns-then-count-gt-MOST_ASSERTIONS-clause-refused
returns-then-count-gt-MOST_ASSERTIONS-clause-refused g c =
    λ other. for_too_many (g.D.Declared.scope c.args.declared.now) c.args.labels c.deref.result.now c.count_marked-count.result
    (c.in_ok-asked.ensures.marked ∙ sym c.deref.ensures.value) c.count_marked-count.ensures c.if-count-gt-MOST_ASSERTIONS.true
    c.in_ok-asked.ensures.known

pub returns-clause-chosen : goal.returns-clause-chosen
returns-clause-chosen g c =
    let are = c.in_ok-asked.ensures.marked in
    for_is_chosen (g.D.Declared.scope c.args.declared.now) c.args.labels _ c.deref.result.now c.count_marked-count.result c.len.result
    c.requires.whole.distinct (are ∙ sym c.deref.ensures.value) c.count_marked-count.ensures c.if-count-gt-MOST_ASSERTIONS.false
    (c.in_ok-chosen.ensures.chosen (seen_words c.args.labels.now) are)
    (c.len.ensures ∙ sym c.deref.ensures.len) (c.in_ok-front.ensures.items_if_clones_equal (λ y e. e))
    c.in_ok-asked.ensures.known

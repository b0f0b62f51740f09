-- What is left to show of `list_tree`.
use Rattle.std.proofs.Common.{List, subst}
use Rattle.taking.specs.declared.named.Named.{Named}
use Rattle.taking.specs.Walks.{IsListing}
use Rattle.taking.proofs.Turned.{if_ok}
use Rattle.pasting.proofs.Sized.{few_steps}
use Rattle.dressing.proofs.Lists.{long_lists, short_lists}
use Rattle.dressing.proofs.listing.list_tree.Goals as goal

pub returns-then-size-gt-MOST_STEPS : goal.returns-then-size-gt-MOST_STEPS
returns-then-size-gt-MOST_STEPS c = λ m earlier x is.
    long_lists m earlier x c.args.tree.now is c.size.result c.size.ensures c.if-size-gt-MOST_STEPS.true

pub list-requires-clause-few : goal.list-requires-clause-few
list-requires-clause-few c =
    few_steps c.args.tree.now.proof.nodes c.args.tree.now.proof.root c.size.result c.size.ensures c.if-size-gt-MOST_STEPS.false

pub returns : goal.returns
returns c = λ m earlier x is.
    let t = c.args.tree.now in
    if_ok c.list.result
    (λ o lists. short_lists m earlier x t is c.size.result c.size.ensures c.if-size-gt-MOST_STEPS.false o
    (subst (λ (ns : List Named). IsListing ns t.proof.nodes t.proof.root o) c.as_slice.ensures.value lists))
    c.list.ensures

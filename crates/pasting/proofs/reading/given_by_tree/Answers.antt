-- What is left to show of `given_by_tree`.
use Rattle.std.proofs.Common.{rules}
use Rattle.std.specs.Prelude.{Some, None}
use Rattle.mmtext.specs.Views.{seen}
use Rattle.taking.specs.Walks.{IsListing}
use Rattle.pasting.proofs.Sized.{few_steps, long_is, short_is}
use Rattle.pasting.proofs.reading.given_by_tree.Goals as goal

pub returns-then-size-gt-MOST_STEPS : goal.returns-then-size-gt-MOST_STEPS
returns-then-size-gt-MOST_STEPS c = λ m earlier x last is.
    long_is m earlier x c.args.tree.now is c.size.result c.size.ensures (seen c.args.first) last c.if-size-gt-MOST_STEPS.true

pub list-requires-clause-few : goal.list-requires-clause-few
list-requires-clause-few c =
    few_steps c.args.tree.now.proof.nodes c.args.tree.now.proof.root c.size.result c.size.ensures c.if-size-gt-MOST_STEPS.false

pub returns-in-Some : goal.returns-in-Some
returns-in-Some c =
    let t = c.args.tree.now in
    let lists : IsListing t.named.items t.proof.nodes t.proof.root (Some c.in-Some.steps) = search rules in
    λ m earlier x last is.
    short_is m earlier x t is c.size.result c.size.ensures (seen c.args.first) last c.if-size-gt-MOST_STEPS.false
    (Some c.in-Some.steps) lists

pub returns-in-None : goal.returns-in-None
returns-in-None c =
    let t = c.args.tree.now in
    let lists : IsListing t.named.items t.proof.nodes t.proof.root None = search rules in
    λ m earlier x last is.
    short_is m earlier x t is c.size.result c.size.ensures (seen c.args.first) last c.if-size-gt-MOST_STEPS.false None lists

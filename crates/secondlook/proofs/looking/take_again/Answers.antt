-- What is left to show of `take_again`.
use Rattle.choosing.specs.declared.wish.Wish.TheVariants.{These}
use Rattle.secondlook.proofs.looking.take_again.Goals as goal

pub returns-in-Err-clause-untaken : goal.returns-in-Err-clause-untaken
returns-in-Err-clause-untaken g c = λ old changes own edited.
    c.untaken.ensures (g.D.Declared.scope c.args.scopes.now) (These c.args.then c.args.axioms) old changes own edited
    c.in-Err.ensures.refused

-- What is left to show of `set_float`.
use Rattle.std.proofs.Common.{Some}
use Rattle.mmsyntax.specs.declared.symbols.Name.TheVariants.{Variable}
use Rattle.mmsyntax.proofs.Names.{after_update}
use Rattle.mmsyntax.proofs.symbols.set_float.Goals as goal

pub returns-in-Some : goal.returns-in-Some
returns-in-Some c =
    let w = Variable c.args.variable (Some c.args.place) in
    after_update c.args.word.now c.args.names.now (c.get_mut.follows.lender w) (Some w) ((c.get_mut.follows.holds w).3 c.requires)

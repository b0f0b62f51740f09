use Rattle.std.proofs.Common.{Some}
use Rattle.mmsyntax.proofs.Names.{after_update}
use Rattle.catalog.proofs.places.put_place.Goals as goal

pub returns-in-Some : goal.returns-in-Some
returns-in-Some c =
    let p = c.args.place in
    after_update c.args.label.now c.args.places.now (c.get_mut.follows.lender p) (Some p) ((c.get_mut.follows.holds p).3 c.requires)

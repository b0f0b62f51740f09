-- What is left to show of `rename`.
use Rattle.std.proofs.Common.{◌<◌, length, arith}
use Rattle.std.proofs.lemmas.List.{length-map}
use Rattle.sourceediting.specs.Following.{renamed}
use Rattle.sourceediting.specs.Views.{seen_living}
use Rattle.sourceediting.proofs.Labels.{one_more}
use Rattle.sourceediting.proofs.following.rename.Goals as goal

pub loop-followed-preserved : goal.loop-followed-preserved
loop-followed-preserved c =
    let k = c.loop-followed.followed-index in
    let there : k < length c.loop-followed.living = omega arith in
    let within : k < length (seen_living c.args.living.now) = rw length-map c.loop-followed-test.true in
    one_more (renamed c.args.old.now c.args.new.now) (seen_living c.args.living.now) c.loop-followed.living k _ _ within there
    c.loop-followed.invariant c.renamed.ensures

-- What the loop of `proofs_then` keeps: the proofs of the assertions so far.
use Rattle.std.proofs.Common.{◌≡◌, map, take}
use Rattle.std.specs.Prelude.{filter_map}
use Rattle.pasting.specs.Views.{seen_given_proof}
use Rattle.sourceediting.specs.Views.{seen_living}
use Rattle.dressing.specs.OwnWords.{proof_then}
use Rattle.dressing.proofs.quoted.proofs_then.Given as goal

abbrev pub invariant-loop-followed : goal.invariant-loop-followed
invariant-loop-followed l =
    map seen_given_proof l.made.items
    ≡ filter_map (proof_then (map seen_given_proof l.given)) (seen_living (take l.followed-index l.followed-items))

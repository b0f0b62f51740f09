-- What is left to show of `places_of_others`.
use Rattle.std.proofs.Common.{◌≡◌, true, false, get_or, rules}
use Rattle.giving.proofs.Places.{other_more, chosen_more}
use Rattle.giving.proofs.staying.places_of_others.Goals as goal
use Rattle.giving.proofs.staying.places_of_others.Goals.{then-not-is_chosen+in_ok-push, else-not-is_chosen}

pub loop-place-preserved : goal.loop-place-preserved
loop-place-preserved c =
    let flags = c.args.chosen.now in
    let i = c.loop-place.place in
    elim c.if-not-is_chosen.branch [
      | then-not-is_chosen+in_ok-push w ↦
          let flag : get_or flags i false ≡ false = search rules in
          rw (w.places-is, w.in_ok-push.ensures.items)
          (other_more flags i c.loop-place.places.items c.loop-place-test.true flag c.loop-place.invariant)
      | else-not-is_chosen w ↦
          let flag : get_or flags i false ≡ true = search rules in
          rw w.places-is (chosen_more flags i c.loop-place.places.items c.loop-place-test.true flag c.loop-place.invariant)
    ]

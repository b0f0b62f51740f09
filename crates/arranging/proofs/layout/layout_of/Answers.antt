use Rattle.std.proofs.Common.{◌≡◌, ◌+◌, false, [], ◌∷◌, ◌++◌, length, sym, subst, arith}
use Rattle.arranging.specs.Places.{GoesOn}
use Rattle.arranging.proofs.Laid.{GoesFrom, item_on, all_on}
use Rattle.arranging.proofs.layout.layout_of.Goals as goal

pub loop-place-preserved : goal.loop-place-preserved
loop-place-preserved c =
    let i = c.loop-place.place in
    let put = c.put_at.new.layout.items in
    record {
      within = c.in_ok-next.ensures.next;
      layout = λ e old going may.
          let before = c.loop-place.invariant.layout e old going may in
          let on = item_on e old put c.args.goes.now i false c.loop-place-test.true before.0
          (c.in_ok-next.ensures.layout e old may before.1) in
          let is =
          subst (λ p. c.push.new.self.items ≡ put ++ p ∷ []) c.item_placed.ensures c.in_ok-push.ensures.items in
          (on.0, subst (λ ps. GoesOn e old ps (i + 1)) (sym is) on.1);
    }

pub returns-clause-laid : goal.returns-clause-laid
returns-clause-laid c = λ e old going may.
    let goes = c.args.goes.now in
    let before = c.loop-place.invariant.layout e old going may in
    let end : c.loop-place.place ≡ length goes = omega (arith, c.loop-place-test.false, c.loop-place.auto.place-end) in
    let on = c.in_ok-next-2.ensures.layout e old may (subst (GoesOn e old c.loop-place.layout.items) end before.1) in
    all_on e old c.put_at-2.new.layout.items goes (length goes) (omega arith) (subst (GoesFrom e old goes) end before.0) on

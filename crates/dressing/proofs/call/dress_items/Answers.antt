-- What is left to show of `dress_items`.
use Rattle.std.proofs.Common.{◌∙◌, ◌++◌, sym, ap, subst, arith}
use Rattle.std.proofs.lemmas.List.{take_rest}
use Rattle.dressing.proofs.Dressed.{AreDressed, none_dressed, one_dressed, all_dressed}
use Rattle.dressing.proofs.call.dress_items.Goals as goal

pub loop-item-init : goal.loop-item-init
loop-item-init c =
    let d = c.args.dressing.now in
    record {
      within = omega arith;
      put =
          subst (AreDressed d.proofs d.labels d.descriptions c.args.source.now 0) (sym c.in_ok-out.ensures.items)
          (none_dressed d.proofs d.labels d.descriptions c.args.source.now);
      divided = c.requires.divided;
    }

pub loop-item-preserved : goal.loop-item-preserved
loop-item-preserved c =
    let d = c.args.dressing.now in
    let is = c.in-Some.ensures.item in
    record {
      within = c.in-Some.ensures.within;
      put =
          one_dressed d.proofs d.labels d.descriptions c.args.source.now c.loop-item.at c.in-Some.item c.loop-item.out.items
          c.put_item.new.out.items c.loop-item.invariant.put is (c.in_ok-put_item.ensures is);
      divided = c.in-Some.ensures.divided c.loop-item.invariant.divided;
    }

pub returns : goal.returns
returns c =
    let d = c.args.dressing.now in
    all_dressed d.proofs d.labels d.descriptions c.args.source.now c.loop-item.at c.loop-item.out.items
    c.extend_from_slice.new.self.items c.loop-item.invariant.put (c.in_default.ensures.divided c.loop-item.invariant.divided)
    (c.in_ok-extend_from_slice.ensures.items ∙ ap (λ rest. c.loop-item.out.items ++ rest) (take_rest c.args.source.now c.loop-item.at))

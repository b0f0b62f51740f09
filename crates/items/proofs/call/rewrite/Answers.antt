-- What is left to show of `rewrite`.
use Rattle.std.proofs.Common.{◌∙◌, ◌++◌, sym, ap, subst, arith}
use Rattle.std.proofs.lemmas.List.{take_rest}
use Rattle.items.proofs.PutThen.{ArePut, none_put, one_put, all_put}
use Rattle.items.proofs.call.rewrite.Goals as goal

pub loop-item-init : goal.loop-item-init
loop-item-init c = record {
  within = omega arith;
  divided = λ d. d;
  put =
      subst (ArePut c.args.changes.now c.args.proofs.now c.args.source.now 0) (sym c.in_ok-out.ensures.items)
      (none_put c.args.changes.now c.args.proofs.now c.args.source.now);
}

pub loop-item-preserved : goal.loop-item-preserved
loop-item-preserved c =
    let is = c.in-Some.ensures.item in
    let put = c.in_ok-put_item.ensures.put is c.if-not-branch.false in
    record {
      within = c.in-Some.ensures.within;
      put =
          one_put c.args.changes.now c.args.proofs.now c.args.source.now c.loop-item.at c.in-Some.item c.loop-item.out.items put.0
          c.put_item.new.out.items c.loop-item.invariant.put is put.2 put.1;
      divided = λ d. c.in-Some.ensures.divided (c.loop-item.invariant.divided d);
    }

pub returns-in_ok-extend_from_slice-in-None-clause-rewritten : goal.returns-in_ok-extend_from_slice-in-None-clause-rewritten
returns-in_ok-extend_from_slice-in-None-clause-rewritten c =
    all_put c.args.changes.now c.args.proofs.now c.args.source.now c.loop-item.at c.loop-item.out.items
    c.extend_from_slice.new.self.items c.loop-item.invariant.put c.in-None.ensures.none (c.in_ok-extend_from_slice-in-None.ensures.items
    ∙ ap (λ rest. c.loop-item.out.items ++ rest) (take_rest c.args.source.now c.loop-item.at))

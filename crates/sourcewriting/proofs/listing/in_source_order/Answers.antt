-- What is left to show of `in_source_order`.
use Rattle.std.proofs.Common.{[], arith}
use Rattle.sourcewriting.proofs.Orders.{float_placed, premise_placed, float_there, premise_there, none_placed, all_placed}
use Rattle.sourcewriting.proofs.listing.in_source_order.Goals as goal
use Rattle.sourcewriting.proofs.listing.in_source_order.Goals.{then-is_float+in_ok-push, else-is_float+in_ok-push-2}

pub loop-is_float-init : goal.loop-is_float-init
loop-is_float-init c = none_placed c.args.kinds.now c.args.arguments.now _ _ c.count_floats-premises.ensures c.new-made.ensures.items

pub bounds-arguments-floats : goal.bounds-arguments-floats
bounds-arguments-floats c =
    let l = c.loop-is_float in
    float_there c.args.kinds.now c.args.arguments.now l.is_float-index l.floats l.premises l.made.items [] l.invariant
    c.loop-is_float-test.true
    c.requires c.if-is_float.true

pub bounds-arguments-premises : goal.bounds-arguments-premises
bounds-arguments-premises c =
    let l = c.loop-is_float in
    premise_there c.args.kinds.now c.args.arguments.now l.is_float-index l.floats l.premises l.made.items [] l.invariant
    c.loop-is_float-test.true
    c.requires c.if-is_float.false

pub overflow_add-floats : goal.overflow_add-floats
overflow_add-floats c =
    let l = c.loop-is_float in
    let there = float_there c.args.kinds.now c.args.arguments.now l.is_float-index l.floats l.premises l.made.items [] l.invariant
    c.loop-is_float-test.true c.requires c.if-is_float.true in
    omega (arith, there)

pub overflow_add-premises : goal.overflow_add-premises
overflow_add-premises c =
    let l = c.loop-is_float in
    let there = premise_there c.args.kinds.now c.args.arguments.now l.is_float-index l.floats l.premises l.made.items [] l.invariant
    c.loop-is_float-test.true c.requires c.if-is_float.false in
    omega (arith, there)

pub loop-is_float-preserved : goal.loop-is_float-preserved
loop-is_float-preserved c =
    let l = c.loop-is_float in
    let kinds = c.args.kinds.now in
    let arguments = c.args.arguments.now in
    elim c.if-is_float.branch [
      | then-is_float+in_ok-push w ↦
          rw (w.floats-is, w.premises-is, w.made-is) (float_placed kinds arguments l.is_float-index l.floats l.premises
          l.made.items _ l.invariant c.loop-is_float-test.true c.requires w.if-is_float.true w.in_ok-push.ensures.items)
      | else-is_float+in_ok-push-2 w ↦
          rw (w.floats-is, w.premises-is, w.made-is) (premise_placed kinds arguments l.is_float-index l.floats l.premises
          l.made.items _ l.invariant c.loop-is_float-test.true c.requires w.if-is_float.false w.in_ok-push-2.ensures.items)
    ]

pub returns-clause-order : goal.returns-clause-order
returns-clause-order c =
    let l = c.loop-is_float in
    all_placed c.args.kinds.now c.args.arguments.now l.is_float-index l.floats l.premises l.made.items l.invariant (omega arith)
    (omega arith) c.requires

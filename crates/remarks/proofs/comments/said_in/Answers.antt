-- What is left to show of `said_in`.
use Rattle.std.proofs.Common.{arith}
use Rattle.mmtext.specs.Views.{seen}
use Rattle.items.proofs.Reworded.{stands_later, something_left}
use Rattle.remarks.proofs.Heard.{none_heard, one_heard, all_heard}
use Rattle.remarks.proofs.comments.said_in.Goals as goal

pub loop-at-init : goal.loop-at-init
loop-at-init c =
    let text = c.args.text.now in
    let end = c.args.item.end in
    let begins = stands_later text c.args.from end c.requires.stands.item c.requires.stands.stands in
    let window = c.new-window in
    let nothing = c.nothing-remark in
    record {
      within = omega (arith, begins, c.requires.within);
      heard =
          λ x h. none_heard text c.args.from end x window.result nothing.result h window.ensures.first window.ensures.second
          window.ensures.third nothing.ensures.modification nothing.ensures.usage;
    }

pub unreachable-requires : goal.unreachable-requires
unreachable-requires c =
    let text = c.args.text.now in
    let h = c.loop-at.invariant.heard c.requires.stands.item c.requires.stands.stands in
    something_left text c.loop-at.at c.args.item.end h.left h.stands c.loop-at-test.true c.in_default.ensures.none

pub loop-at-preserved : goal.loop-at-preserved
loop-at-preserved c =
    let text = c.args.text.now in
    let found = c.in-Some.ensures in
    let with = c.with-remark in
    let behind = c.behind-window in
    record {
      within = found.within;
      heard =
          λ x h. one_heard text c.loop-at.at c.args.item.end x c.loop-at.window c.loop-at.remark (seen c.in-Some.token) behind.result
          with.result (c.loop-at.invariant.heard x h) c.loop-at-test.true
          (record { next = found.some; later = found.later; within = found.within }) behind.ensures.first behind.ensures.second
          behind.ensures.third with.ensures.modification with.ensures.usage;
    }

pub returns : goal.returns
returns c = λ x h. all_heard c.args.text.now c.loop-at.at c.args.item.end x c.loop-at.window c.loop-at.remark
    (c.loop-at.invariant.heard x h) c.loop-at-test.false

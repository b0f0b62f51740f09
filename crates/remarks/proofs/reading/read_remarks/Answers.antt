-- What is left to show of `read_remarks`.
use Rattle.source.specs.Views.{seen_words}
use Rattle.remarks.proofs.Read.{one_read, all_read}
use Rattle.remarks.proofs.reading.read_remarks.Goals as goal

pub loop-item-preserved : goal.loop-item-preserved
loop-item-preserved c =
    let is = c.in-Some.ensures.item in
    let was = c.loop-item.remarks in
    let put = c.put.new.self in
    record {
      within = c.in-Some.ensures.within;
      read =
          one_read c.args.text.now c.loop-item.at c.in-Some.item c.loop-item.front c.remark_of-front.result
          (seen_words was.modification.items) (seen_words was.usage.items) (seen_words put.modification.items)
          (seen_words put.usage.items) c.loop-item.invariant.read is (c.remark_of-front.ensures is)
          (c.in_ok-put.ensures.modification is.item is.kind) (c.in_ok-put.ensures.usage is.item is.kind);
      divided = c.in-Some.ensures.divided c.loop-item.invariant.divided;
    }

pub returns : goal.returns
returns c =
    all_read c.args.text.now c.loop-item.at c.loop-item.front (seen_words c.loop-item.remarks.modification.items)
    (seen_words c.loop-item.remarks.usage.items) c.loop-item.invariant.read
    (c.in_default.ensures.divided c.loop-item.invariant.divided)

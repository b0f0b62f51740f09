use Rattle.std.proofs.Common.{suc, drop}
use Rattle.std.specs.Prelude.{slice_range}
use Rattle.arranging.proofs.Under.{cut_behind}
use Rattle.arranging.proofs.checking.Checker.is_first.Goals as goal

pub returns : goal.returns
returns c = λ e source old known holds.
    let place = c.args.place in
    let item = c.args.item in
    let it = c.keeps.ensures e source old known holds in record {
      none = c.keeps_none_before.ensures e source old known c.if-not-keeps_none_before.false;
      section = slice_range old place item;
      item = it.0;
      rest = drop (suc item) old;
      whole = cut_behind old place item it.0 it.1 (c.is_section.ensures.ordered c.if-not-is_section.false);
      same = c.is_section.ensures.same e source old known c.if-not-is_section.false;
      keeps = it.2;
    }

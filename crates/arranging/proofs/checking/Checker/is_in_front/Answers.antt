use Rattle.std.proofs.Common.{◌∙◌, ◌++◌, ap, drop}
use Rattle.std.specs.Prelude.{slice_range}
use Rattle.arranging.proofs.Under.{cut_between}
use Rattle.arranging.proofs.checking.Checker.is_in_front.Goals as goal

pub returns-then-is_section : goal.returns-then-is_section
returns-then-is_section c = λ e source old known holds.
    let place = c.args.place in
    let first = c.args.first in
    let end = c.args.end in
    let left = c.is_left_block.ensures.left e source old known holds in record {
      section = slice_range old place first;
      block = slice_range old first end;
      rest = drop end old;
      whole =
          cut_between old place first (c.is_section.ensures.ordered c.if-is_section.true)
          ∙ ap (λ xs. slice_range old place first ++ xs) (cut_between old first end (c.is_left_block.ensures.ordered holds));
      same = c.is_section.ensures.same e source old known c.if-is_section.true;
      is_block = left.0;
      leaves = left.1;
    }

-- What the loop of `new` keeps.
use Rattle.std.proofs.Common.{take, length}
use Rattle.sourceframes.specs.Marks.{AreMarked, AreOthers}
use Rattle.sourceframes.proofs.marks.Marked.new.Given as goal

abbrev pub invariant-loop-number : goal.invariant-loop-number
invariant-loop-number l = record {
  marked : AreMarked (take l.number-index l.fn.numbers.items) l.marks.items;
  others : AreOthers (take l.number-index l.fn.numbers.items) (length l.marks.items) l.others;
}

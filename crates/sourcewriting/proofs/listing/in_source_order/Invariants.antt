-- What the loop of `in_source_order` keeps: which arguments were put for the kinds so far, and which are left.
use Rattle.sourcewriting.proofs.Orders.{ArePlaced}
use Rattle.sourcewriting.proofs.listing.in_source_order.Given as goal

abbrev pub invariant-loop-is_float : goal.invariant-loop-is_float
invariant-loop-is_float l = ArePlaced l.kinds l.arguments l.is_float-index l.floats l.premises l.made.items

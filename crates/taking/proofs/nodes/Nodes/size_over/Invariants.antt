-- What the loop of `size_over` keeps: the size over the arguments so far.
use Rattle.std.proofs.Common.{◌≡◌, take}
use Rattle.taking.specs.Views.{size_over}
use Rattle.taking.proofs.nodes.Nodes.size_over.Given as goal

abbrev pub invariant-loop-place : goal.invariant-loop-place
invariant-loop-place l = l.size ≡ size_over l.self (take l.place-index l.arguments)

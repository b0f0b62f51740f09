-- What the loop of `with_commas` keeps: what stands there, and the digits to come with commas, are all of it.
use Rattle.std.proofs.Common.{◌≡◌, ◌++◌, drop}
use Rattle.program.specs.Summaries.{with_commas}
use Rattle.program.proofs.summary.with_commas.Given as goal

abbrev pub invariant-loop-place : goal.invariant-loop-place
invariant-loop-place l = l.text.items ++ with_commas (drop l.place l.digits) ≡ with_commas l.digits

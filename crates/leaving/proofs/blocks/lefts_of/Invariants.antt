-- What the loop of `lefts_of` keeps: what stands behind a place, and the blocks from there on.
use Rattle.std.proofs.Common.{◌≡◌, length, drop}
use Rattle.std.specs.Prelude.{reverse}
use Rattle.leaving.specs.Ends.{IsBehind, lefts}
use Rattle.leaving.proofs.blocks.lefts_of.Given as goal

abbrev pub invariant-loop-place : goal.invariant-loop-place
invariant-loop-place l = record {
  behind : IsBehind (length l.parts) (drop l.place l.parts) l.behind;
  lefts : reverse l.lefts.items ≡ lefts (length l.parts) (drop l.place l.parts);
}

-- What the loop of `first_labelled` keeps.
use Rattle.std.proofs.Common.{◌≡◌, drop}
use Rattle.mmsyntax.specs.Steps.{hypothesis_named}
use Rattle.mmunits.proofs.BlockPlaces.{behind}
use Rattle.mmunits.proofs.block.first_labelled.Given as goal

-- the first hypothesis is among those that are left
abbrev pub invariant-loop-hypothesis : goal.invariant-loop-hypothesis
invariant-loop-hypothesis l = record {
  counted : l.place ≡ l.hypothesis-index;
  same : hypothesis_named l.hyps l.word ≡ behind l.hypothesis-index (hypothesis_named (drop l.hypothesis-index l.hyps) l.word);
}

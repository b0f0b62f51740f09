use Rattle.std.proofs.Common.{◌≡◌, List, length, drop}
use Rattle.source.specs.Scopes.{Hypothesis}
use Rattle.source.specs.Views.{seen_words}
use Rattle.taking.specs.Listings.{premise_labels}
use Rattle.sourcewriting.specs.Leaving.{Lead, LeaveOne, CanBeCounted, StepTakes}
use Rattle.sourcewriting.specs.Counting.{Takes}
use Rattle.sourcewriting.specs.Nodes.{AreFew, AreNodes, AreThere}
use Rattle.sourcewriting.specs.Taking.{AllTake}
use Rattle.sourcewriting.proofs.listing.put_nodes.Given as goal

abbrev pub invariant-loop-place : goal.invariant-loop-place
invariant-loop-place g l = record {
  taken : (hs : List Hypothesis) → seen_words l.premises ≡ premise_labels hs
      → AllTake (g.D.Declared.scope l.declared) l.names hs l.fn.shared → AllTake (g.D.Declared.scope l.declared) l.names hs l.shared;
  one : LeaveOne (StepTakes (g.D.Declared.scope l.declared) l.names (length l.premises)) l.steps
      → Lead (StepTakes (g.D.Declared.scope l.declared) l.names (length l.premises)) (length l.stack.items) (drop l.place l.steps) 1;
  few : AreFew l.place l.fn.shared l.shared;
  nodes : (hs : List Hypothesis) → seen_words l.premises ≡ premise_labels hs
      → AllTake (g.D.Declared.scope l.declared) l.names hs l.fn.shared → CanBeCounted (Takes (g.D.Declared.scope l.declared) l.names hs) hs
      → AreNodes l.fn.shared → AreNodes l.shared × AreThere l.shared l.stack.items;
}

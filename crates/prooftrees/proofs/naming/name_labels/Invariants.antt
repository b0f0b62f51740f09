-- What the loop of `name_labels` keeps.
use Rattle.std.proofs.Common.{◌≡◌, List, take}
use Rattle.mmtext.specs.Words.{Word}
use Rattle.source.specs.Scopes.{Assertion, Hypothesis}
use Rattle.source.specs.Views.{seen_words}
use Rattle.prooftrees.specs.Names.{AreEnough, AreFrames, IsKnown}
use Rattle.prooftrees.specs.Roles.{looks_up}
use Rattle.prooftrees.proofs.Named.{NamesOf}
use Rattle.std.specs.Prelude.{All}
use Rattle.prooftrees.proofs.naming.name_labels.Given as goal

abbrev pub invariant-loop-label : goal.invariant-loop-label
invariant-loop-label g l = record {
  right : g.C.CitedFrames.is_right l.cited;
  assertions : g.C.CitedFrames.assertions l.cited ≡ g.C.CitedFrames.assertions l.initial.cited;
  same : (w : Word) → g.C.CitedFrames.floats l.cited w ≡ g.C.CitedFrames.floats l.initial.cited w;
  names : (earlier : List Assertion) (active : List Hypothesis) → AreFrames earlier (g.C.CitedFrames.floats l.initial.cited)
      → AreEnough earlier active (looks_up l.roles.roles) → All (IsKnown earlier active) (seen_words l.labels)
      → NamesOf (g.P.StepPlaces.places l.places) earlier active (take l.label-index (seen_words l.labels)) l.named.items;
}

use Rattle.std.proofs.Common.{◌≡◌, ℕ, List, [], take, IsFalse}
use Rattle.mmtext.specs.Words.{Word}
use Rattle.sourcewriting.specs.Laid.{HasLabels, has_closing}
use Rattle.sourcewriting.specs.Named.{AreNames}
use Rattle.sourcewriting.specs.Reading.{labels_in}
use Rattle.sourcewriting.proofs.wording.put_labels.Given as goal

abbrev pub invariant-loop-word : goal.invariant-loop-word
invariant-loop-word l = record {
  laid : (i : List ℕ) (front : List Word) → IsFalse (has_closing front)
      → HasLabels i l.fn.layout front [] → HasLabels i l.layout front (labels_in (take l.word-index l.labels));
  fine : AreNames (labels_in l.labels) → l.layout.is_refused ≡ l.fn.layout.is_refused;
}

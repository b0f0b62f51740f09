-- Of the code's inside, apart from the rules: the labels that the numbers of a proof count.
use Rattle.std.specs.Prelude.{◌≡◌, List, map, ◌++◌, Some}
use Rattle.mmtext.specs.Words.{Word}
use Rattle.source.specs.Statements.{Proof, normal, compressed}
use Rattle.source.specs.Scopes.{Hypothesis, label_of}
use Rattle.source.specs.Proofs.{step_of, steps_of}
use Rattle.source.specs.Views.{seen_words}
use Rattle.taking.specs.declared.counting.Counted.{Counted}

-- those of the mandatory hypotheses and then those in parentheses (appendix B); in a normal proof each word counts as itself
abbrev pub counted_labels : List Hypothesis → Proof → List Word
counted_labels hypotheses (normal ws) = ws
counted_labels hypotheses (compressed labels letters) = map label_of hypotheses ++ labels

-- the labels, and the codes whose steps are those of the proof
pub record IsCounted (hypotheses : List Hypothesis) (proof : Proof) (c : Counted) : Type 0 where
  pub labels_are : seen_words c.labels.items ≡ counted_labels hypotheses proof
  pub steps_are : steps_of hypotheses proof ≡ Some (map (step_of (seen_words c.labels.items)) c.codes)

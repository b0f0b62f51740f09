-- How contracts see hypotheses that the code has copied.
use Rattle.std.specs.Prelude.{List, map}
use Rattle.source.specs.declared.contents.HypothesisWords.{HypothesisWords}
use Rattle.source.specs.Scopes.{Hypothesis}
use Rattle.source.specs.Views.{seen_hypothesis}

abbrev pub given_hypotheses : List HypothesisWords → List Hypothesis
given_hypotheses hs = map seen_hypothesis hs

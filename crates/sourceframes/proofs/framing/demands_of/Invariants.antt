-- What the loop of `demands_of` keeps.
use Rattle.std.proofs.Common.{◌≡◌, List, map}
use Rattle.source.specs.Scopes.{Hypothesis}
use Rattle.source.specs.Views.{seen_hypotheses}
use Rattle.sourceframes.specs.Names.{words_of, IsSound, Grows, Lasts}
use Rattle.sourceframes.specs.Frames.{asked_in, asked_of, AreVariables}
use Rattle.sourceframes.proofs.framing.demands_of.Given as goal

abbrev pub invariant-loop-hypothesis : goal.invariant-loop-hypothesis
invariant-loop-hypothesis l = record {
  sound : IsSound l.table;
  grows : Grows (words_of l.initial.table) (words_of l.table);
  made : (hs : List Hypothesis) → AreVariables hs l.variables
      → Lasts (words_of l.table) (λ name. map (asked_of name) l.demands.items ≡ map (asked_in hs) (seen_hypotheses l.yielded));
}

-- What the loop of `pairs_of` keeps.
use Rattle.std.proofs.Common.{◌≡◌, List, map, filter}
use Rattle.source.specs.Scopes.{Hypothesis}
use Rattle.source.specs.Views.{seen_words, seen_pairs}
use Rattle.sourceframes.specs.Names.{words_of, IsSound, Grows, Lasts}
use Rattle.sourceframes.specs.Frames.{is_kept, parts_in, parts_of, AreVariables}
use Rattle.sourceframes.proofs.framing.pairs_of.Given as goal

abbrev pub invariant-loop-pair : goal.invariant-loop-pair
invariant-loop-pair l = record {
  sound : IsSound l.table;
  grows : Grows (words_of l.initial.table) (words_of l.table);
  made : (hs : List Hypothesis) → AreVariables hs l.variables
      → Lasts (words_of l.table) (λ name. map (parts_of name) l.kept.items
      ≡ map (parts_in hs) (filter (is_kept (seen_words l.mentioned)) (seen_pairs l.yielded)));
}

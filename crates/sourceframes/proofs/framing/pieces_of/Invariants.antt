-- What the loop of `pieces_of` keeps.
use Rattle.std.proofs.Common.{◌≡◌, List, map, take}
use Rattle.source.specs.Scopes.{Hypothesis}
use Rattle.source.specs.Views.{seen_words}
use Rattle.sourceframes.specs.Names.{words_of, IsSound, Grows, Lasts}
use Rattle.sourceframes.specs.Frames.{part_in, part_of, AreVariables}
use Rattle.sourceframes.proofs.framing.pieces_of.Given as goal

abbrev pub invariant-loop-word : goal.invariant-loop-word
invariant-loop-word l = record {
  sound : IsSound l.table;
  grows : Grows (words_of l.initial.table) (words_of l.table);
  made : (hs : List Hypothesis) → AreVariables hs l.variables
      → Lasts (words_of l.table) (λ name. map (part_of name) l.pieces.items ≡ map (part_in hs) (seen_words (take l.word-index l.words)));
}

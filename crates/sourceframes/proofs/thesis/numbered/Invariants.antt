-- What the loop of `numbered` keeps.
use Rattle.std.proofs.Common.{◌≡◌, map}
use Rattle.source.specs.Views.{seen_pairs}
use Rattle.sourceframes.specs.Names.{words_of, IsSound, Grows, Lasts}
use Rattle.sourceframes.specs.Frames.{names_of}
use Rattle.sourceframes.proofs.thesis.numbered.Given as goal

abbrev pub invariant-loop-pair : goal.invariant-loop-pair
invariant-loop-pair l = record {
  sound : IsSound l.table;
  grows : Grows (words_of l.initial.table) (words_of l.table);
  made : Lasts (words_of l.table) (λ name. map (names_of name) l.numbered.items ≡ seen_pairs l.yielded);
}

-- What the loop of `numbers` keeps.
use Rattle.std.proofs.Common.{◌≡◌, map, take}
use Rattle.source.specs.Views.{seen_words}
use Rattle.sourceframes.specs.Names.{words_of, IsSound, Grows, Lasts}
use Rattle.sourceframes.proofs.table.Table.numbers.Given as goal

abbrev pub invariant-loop-word : goal.invariant-loop-word
invariant-loop-word l = record {
  sound : IsSound l.self;
  grows : Grows (words_of l.initial.self) (words_of l.self);
  named : Lasts (words_of l.self) (λ name. map name l.numbers.items ≡ seen_words (take l.word-index l.words));
}

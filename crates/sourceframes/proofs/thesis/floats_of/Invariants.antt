-- What the loop of `floats_of` keeps.
use Rattle.std.proofs.Common.{◌≡◌, map}
use Rattle.std.specs.List.{filter_map}
use Rattle.source.specs.Views.{seen_hypotheses}
use Rattle.sourceframes.specs.Names.{words_of, IsSound, Grows, Lasts}
use Rattle.sourceframes.specs.Frames.{variable_of}
use Rattle.sourceframes.proofs.thesis.floats_of.Given as goal

abbrev pub invariant-loop-hypothesis : goal.invariant-loop-hypothesis
invariant-loop-hypothesis l = record {
  sound : IsSound l.table;
  grows : Grows (words_of l.initial.table) (words_of l.table);
  made : Lasts (words_of l.table) (λ name. map name l.floats.items ≡ filter_map variable_of (seen_hypotheses l.yielded));
}

-- What the loop of `put_named` keeps: what was put so far, and whether the last word passes.
use Rattle.std.proofs.Common.{◌≡◌, ◌++◌, take}
use Rattle.source.specs.Views.{seen_words}
use Rattle.expanding.specs.Asking.{is_behind, words_behind}
use Rattle.expanding.proofs.AskedWords.{last_passes}
use Rattle.expanding.proofs.asking.put_named.Given as goal

abbrev pub invariant-loop-word : goal.invariant-loop-word
invariant-loop-word l = record {
  put : seen_words l.named.items ≡ seen_words l.fn.named.items ++ words_behind is_behind (seen_words (take l.word-index l.words));
  passes : l.names ≡ last_passes is_behind (seen_words (take l.word-index l.words));
}

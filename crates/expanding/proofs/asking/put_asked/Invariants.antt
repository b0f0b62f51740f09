-- What the loop of `put_asked` keeps: what was put so far, and whether the last word passes.
use Rattle.std.proofs.Common.{◌≡◌, ◌++◌, take}
use Rattle.source.specs.Views.{seen_words}
use Rattle.expanding.specs.Asking.{asks_for_proof, words_behind}
use Rattle.expanding.proofs.AskedWords.{last_passes}
use Rattle.expanding.proofs.asking.put_asked.Given as goal

abbrev pub invariant-loop-word : goal.invariant-loop-word
invariant-loop-word l = record {
  put : seen_words l.asked.items ≡ seen_words l.fn.asked.items ++ words_behind asks_for_proof (seen_words (take l.word-index l.words));
  passes : l.asks ≡ last_passes asks_for_proof (seen_words (take l.word-index l.words));
}

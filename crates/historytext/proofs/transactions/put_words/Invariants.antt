-- What the loop of `put_words` keeps.
use Rattle.std.proofs.Common.{◌≡◌, ◌∷◌, ◌++◌, take}
use Rattle.std.specs.List.{flat_map}
use Rattle.historytext.proofs.transactions.put_words.Given as goal

abbrev pub invariant-loop-word : goal.invariant-loop-word
invariant-loop-word l = l.out.items ≡ l.fn.out.items ++ flat_map (λ w. 32 ∷ w.now) (take l.word-index l.words)

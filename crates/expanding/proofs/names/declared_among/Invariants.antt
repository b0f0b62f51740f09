-- What the loop of `declared_among` keeps: those of the words so far.
use Rattle.std.proofs.Common.{◌≡◌, take}
use Rattle.std.specs.Prelude.{filter}
use Rattle.source.specs.Views.{seen_words}
use Rattle.expanding.specs.Discouraged.{is_declared}
use Rattle.expanding.proofs.names.declared_among.Given as goal

abbrev pub invariant-loop-word : goal.invariant-loop-word
invariant-loop-word g l =
    seen_words l.labels.items ≡ filter (is_declared (g.D.Declared.scope l.declared)) (seen_words (take l.word-index l.words))

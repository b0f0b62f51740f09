-- What the loop of `put_behind` keeps: the labels so far.
use Rattle.std.proofs.Common.{◌≡◌, ◌++◌, take}
use Rattle.source.specs.Views.{seen_words}
use Rattle.expanding.specs.Asking.{labels_behind}
use Rattle.expanding.proofs.asking.put_behind.Given as goal

abbrev pub invariant-loop-label : goal.invariant-loop-label
invariant-loop-label g l =
    seen_words l.spoken.items
    ≡ seen_words l.fn.spoken.items ++ labels_behind (g.D.Declared.scope l.declared) (seen_words (take l.label-index l.named))

-- What the loop of `labels_changing` keeps: the flags so far.
use Rattle.std.proofs.Common.{◌≡◌, take, map}
use Rattle.std.specs.List.{list_any}
use Rattle.mmsyntax.specs.Dotted.{is_dotted}
use Rattle.source.specs.Views.{seen_words}
use Rattle.sites.proofs.changes.labels_changing.Given as goal

abbrev pub invariant-loop-label : goal.invariant-loop-label
invariant-loop-label l =
    l.changes.items ≡ map (λ p. list_any (λ m. is_dotted m p) (seen_words l.labels)) (seen_words (take l.label-index l.labels))

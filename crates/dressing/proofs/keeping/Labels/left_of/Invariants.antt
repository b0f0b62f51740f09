-- What the loop of `left_of` keeps: what is left of the labels so far.
use Rattle.std.proofs.Common.{◌≡◌, take}
use Rattle.source.specs.Views.{seen_words}
use Rattle.dressing.specs.Labels.{is_free, left_of}
use Rattle.dressing.proofs.keeping.Labels.left_of.Given as goal

abbrev pub invariant-loop-label : goal.invariant-loop-label
invariant-loop-label g l =
    seen_words l.made.items
    ≡ left_of (is_free (g.D.Declared.scope l.self.declared.now) (seen_words l.self.written.now) (take l.self.before l.self.wanted.now))
    (seen_words (take l.label-index l.label-items)) (seen_words l.labels)

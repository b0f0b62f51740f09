-- What the loop of `labels_then` keeps: what is left gives the rest of the labels.
use Rattle.std.proofs.Common.{◌≡◌, ◌++◌, drop, take}
use Rattle.source.specs.Views.{seen_words}
use Rattle.dressing.specs.Labels.{given_from, is_free}
use Rattle.dressing.proofs.keeping.Labels.labels_then.Given as goal

abbrev pub invariant-loop-label : goal.invariant-loop-label
invariant-loop-label g l =
    seen_words l.made.items
    ++ given_from (is_free (g.D.Declared.scope l.self.declared.now) (seen_words l.self.written.now) (take l.self.before l.self.wanted.now))
    (seen_words (drop l.next l.left)) (seen_words (drop l.label-index l.labels))
    ≡ given_from (is_free (g.D.Declared.scope l.self.declared.now) (seen_words l.self.written.now) (take l.self.before l.self.wanted.now))
    (seen_words l.left) (seen_words l.labels)

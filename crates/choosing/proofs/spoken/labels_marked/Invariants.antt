-- What the loop of `labels_marked` keeps: the labels so far.
use Rattle.std.proofs.Common.{◌≡◌, Bool, take}
use Rattle.std.specs.Prelude.{filter}
use Rattle.mmtext.specs.Words.{Word}
use Rattle.source.specs.Views.{seen_words}
use Rattle.choosing.specs.Choices.{labels_of}
use Rattle.choosing.specs.Marks.{AreMarked}
use Rattle.choosing.proofs.spoken.labels_marked.Given as goal

abbrev pub invariant-loop-place : goal.invariant-loop-place
invariant-loop-place g l =
    (test : Word → Bool) → AreMarked (g.D.Declared.scope l.declared).assertions test l.marks
    → seen_words l.labels.items ≡ labels_of (filter (λ x. test x.label) (take l.place (g.D.Declared.scope l.declared).assertions))

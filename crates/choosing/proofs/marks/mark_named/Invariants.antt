-- What the loop of `mark_named` keeps: the nodes so far are marked.
use Rattle.std.proofs.Common.{Bool, take}
use Rattle.std.specs.Prelude.{◌||◌}
use Rattle.mmtext.specs.Words.{Word}
use Rattle.source.specs.Views.{seen_words}
use Rattle.choosing.specs.Marks.{AreMarked, is_named}
use Rattle.choosing.proofs.marks.mark_named.Given as goal

abbrev pub invariant-loop-node : goal.invariant-loop-node
invariant-loop-node g l =
    (test : Word → Bool) → AreMarked (g.D.Declared.scope l.declared).assertions test l.fn.marks
    → AreMarked (g.D.Declared.scope l.declared).assertions (λ w. is_named (seen_words l.labels) (take l.node l.nodes) w || test w) l.marks

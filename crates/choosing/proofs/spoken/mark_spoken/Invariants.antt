-- What the loop of `mark_spoken` keeps: the words so far are marked.
use Rattle.std.proofs.Common.{Bool, take}
use Rattle.std.specs.Prelude.{◌||◌}
use Rattle.mmtext.specs.Words.{Word}
use Rattle.source.specs.Scopes.{is_in}
use Rattle.source.specs.Views.{seen_words}
use Rattle.choosing.specs.Marks.{AreMarked}
use Rattle.choosing.proofs.spoken.mark_spoken.Given as goal

abbrev pub invariant-loop-word : goal.invariant-loop-word
invariant-loop-word g l =
    (test : Word → Bool) → AreMarked (g.D.Declared.scope l.declared).assertions test l.fn.marks
    → AreMarked (g.D.Declared.scope l.declared).assertions (λ w. is_in (seen_words (take l.word-index l.words)) w || test w) l.marks

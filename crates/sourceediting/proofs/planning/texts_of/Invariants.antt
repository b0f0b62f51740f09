-- What the loop of `texts_of` keeps.
use Rattle.std.proofs.Common.{ℕ, List}
use Rattle.std.specs.Prelude.{All}
use Rattle.giving.specs.Changes.{seen_texts}
use Rattle.items.specs.Walking.{AreIndentations}
use Rattle.sourceediting.specs.Following.{Followed}
use Rattle.sourceediting.specs.Entries.{Edition}
use Rattle.sourceediting.specs.Views.{AreNamesOf}
use Rattle.sourceediting.specs.Reproved.{AreOtherProofs, ListsAnew}
use Rattle.sourceediting.proofs.planning.texts_of.Given as goal

-- each text so far is that of another proof
abbrev pub invariant-loop-label : goal.invariant-loop-label
invariant-loop-label g l =
    (source : List ℕ) (e : Edition) (living : List Followed) → AreIndentations source l.indentations
    → AreNamesOf (g.D.Declared.scope l.declared) e living l.names → All (λ p. ListsAnew e living p.0.now p.1.now) l.others
    → AreOtherProofs source (g.D.Declared.scope l.declared) e living (seen_texts l.texts.items)

-- What the loop of `are_uncited` keeps.
use Rattle.std.proofs.Common.{take}
use Rattle.std.specs.Prelude.{All, IsTrue}
use Rattle.source.specs.Scopes.{Assertion}
use Rattle.source.specs.Views.{seen_words}
use Rattle.giving.specs.Staying.{others}
use Rattle.sourceediting.specs.Following.{names_none}
use Rattle.sourceediting.proofs.citing.are_uncited.Given as goal

-- so far no proof names one that is gone
abbrev pub invariant-loop-place : goal.invariant-loop-place
invariant-loop-place g l =
    All (λ (x : Assertion). IsTrue (names_none (seen_words l.fn.gone) x.proof))
    (others (take l.place l.own) (take l.place (g.D.Declared.scope l.declared).assertions))

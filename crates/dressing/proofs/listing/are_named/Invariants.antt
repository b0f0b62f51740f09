-- What the loop of `are_named` keeps: each label so far is named.
use Rattle.std.proofs.Common.{◌≡◌, false, take}
use Rattle.std.specs.List.{list_any}
use Rattle.mmtext.specs.Words.{Word}
use Rattle.source.specs.Scopes.{Assertion}
use Rattle.source.specs.Views.{seen_words}
use Rattle.prooftrees.specs.Roles.{looks_up, role_of}
use Rattle.dressing.specs.Quoted.{is_unnamed}
use Rattle.dressing.proofs.listing.are_named.Given as goal

abbrev pub invariant-loop-label : goal.invariant-loop-label
invariant-loop-label g l =
    (x : Assertion) → ((w : Word) → looks_up l.roles.roles w ≡ role_of x.active w)
    → list_any (is_unnamed (take l.place (g.D.Declared.scope l.declared).assertions) x) (seen_words (take l.label-index l.labels)) ≡ false

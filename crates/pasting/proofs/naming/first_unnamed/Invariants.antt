-- What the loop of `first_unnamed` keeps: each word so far is named.
use Rattle.std.proofs.Common.{◌≡◌, List, map, take, None}
use Rattle.std.specs.Prelude.{find}
use Rattle.mmtext.specs.Views.{seen}
use Rattle.mmtext.specs.Words.{Word}
use Rattle.source.specs.Scopes.{Assertion}
use Rattle.prooftrees.specs.Names.{AreFrames}
use Rattle.prooftrees.specs.Roles.{looks_up, role_of}
use Rattle.pasting.specs.Proofs.{is_unnamed}
use Rattle.pasting.specs.Views.{flags_in}
use Rattle.pasting.proofs.naming.first_unnamed.Given as goal

abbrev pub invariant-loop-word : goal.invariant-loop-word
invariant-loop-word g l =
    (earlier : List Assertion) (x : Assertion)
    → AreFrames earlier (flags_in (g.D.Declared.scope l.citing.declared.now).assertions l.citing.additions.now)
    → ((w : Word) → looks_up l.roles.roles w ≡ role_of x.active w)
    → find (is_unnamed earlier x) (map seen (take l.word-index l.words)) ≡ None

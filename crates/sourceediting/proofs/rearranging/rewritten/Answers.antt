-- What is left to show of `rewritten`.
use Rattle.std.proofs.Common.{map, subst}
use Rattle.std.specs.Prelude.{IfNone}
use Rattle.items.specs.Bare.{HasBare}
use Rattle.library.specs.declared.library.Ranked.{Ranked}
use Rattle.sourceediting.specs.Views.{seen_living}
use Rattle.sourceediting.proofs.Bared.{bare_in}
use Rattle.sourceediting.proofs.rearranging.rewritten.Goals as goal

pub returns-in-None-clause-refused : goal.returns-in-None-clause-refused
returns-in-None-clause-refused c =
    let edits = c.args.edits.now in
    let text = c.args.text.now in
    let edited = map (λ (r : Ranked). r.assertion) edits.planned.edited.now.entries in
    bare_in (seen_living edits.planned.living.now) edited text edits.proofs.now
    (subst (λ made. IfNone made (HasBare edits.proofs.now text)) c.in-None.is (c.in_ok-out.ensures.bare c.requires.divided))
    c.requires.listed

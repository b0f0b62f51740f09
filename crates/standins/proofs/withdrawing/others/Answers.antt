-- What is left to show of `others`: an entry more.
use Rattle.std.proofs.Common.{◌≡◌, ◌∙◌, ◌++◌, ◌∷◌, [], get_or, sym, ap}
use Rattle.std.specs.Prelude.{is_some}
use Rattle.std.specs.Str.{bytes_eq}
use mathlib.Core.Bool.{not}
use Rattle.mmsyntax.specs.declared.statement.Assertion.{Assertion}
use Rattle.mmsyntax.proofs.Distinct.{is_some-place_of}
use Rattle.source.specs.Scopes.{is_in}
use Rattle.library.specs.declared.library.Ranked.{Ranked}
use Rattle.library.specs.Library.{label_of}
use Rattle.standins.specs.Ending.{freed_entry}
use Rattle.standins.proofs.Freed.{stays_next, goes_next}
use Rattle.standins.proofs.withdrawing.others.Goals as goal
use Rattle.standins.proofs.withdrawing.others.Goals.{then-is_none+in_ok-freed+in_ok-push, else-is_none}

pub loop-entry-preserved : goal.loop-entry-preserved
loop-entry-preserved c =
    let ws = c.args.axioms.now in
    let lib = c.args.entries.now in
    let i = c.loop-entry.entry-index in
    let e = c.entry-item.result in
    let made = c.loop-entry.made.items in
    let found : is_some c.place.result ≡ is_in ws (get_or lib i e).assertion.label =
    ap is_some c.place.ensures.place
    ∙ is_some-place_of (bytes_eq c.as_slice.result.now) ws
    ∙ ap (is_in ws) (c.as_slice.ensures ∙ ap label_of c.entry-item.is) in
    elim c.if-is_none.branch [
      | then-is_none+in_ok-freed+in_ok-push w ↦
          stays_next ws lib i e c.loop-entry-test.true (ap not (sym found ∙ w.if-is_none.ensures)) made c.if-is_none.made.items
          c.loop-entry.invariant
          (ap (λ v. v.items) w.made-is
          ∙ w.in_ok-push.ensures.items
          ∙ ap (λ (a : Assertion). made ++ record { rank = e.rank; assertion = a } ∷ []) w.in_ok-freed.ensures
          ∙ ap (λ (x : Ranked). made ++ freed_entry ws x ∷ []) c.entry-item.is)
      | else-is_none w ↦
          ap (λ v. v.items) w.made-is
          ∙ goes_next ws lib i e c.loop-entry-test.true (ap not (sym found ∙ w.if-is_none.ensures)) made c.loop-entry.invariant
    ]

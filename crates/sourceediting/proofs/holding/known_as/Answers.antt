-- What is left to show of `known_as`.
use Rattle.std.proofs.Common.{◌∙◌, ℕ, List, [], None, false, get_or, sym}
use Rattle.std.specs.Borrow.{Bor}
use Rattle.std.proofs.lemmas.List.{get_or_default}
use Rattle.mmsyntax.proofs.Names.{same_bytes}
use Rattle.library.proofs.Filtered.{contains_mapped}
use Rattle.sourceediting.specs.declared.following.Followed.{Followed}
use Rattle.sourceediting.specs.Views.{seen_followed}
use Rattle.sourceediting.proofs.holding.known_as.Goals as goal

pub returns-then-eq : goal.returns-then-eq
returns-then-eq c =
    let xs = c.args.living.now in
    let k = c.loop-followed.followed-index in
    let e : Bor (List ℕ) = record { ref_ptr = (0, 0); now = [] } in
    let d : Followed = record { source = None; first = e; now = e; moved = false } in
    let x : Followed = get_or xs k d in (
      contains_mapped seen_followed xs x (k, c.loop-followed-test.true, get_or_default xs k x d c.loop-followed-test.true),
      same_bytes x.now.now c.args.label.now (sym c.eq.ensures ∙ c.if-eq.true),
    )

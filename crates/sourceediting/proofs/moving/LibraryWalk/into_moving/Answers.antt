-- What is left to show of `into_moving`.
use Rattle.std.proofs.Common.{List, sym, subst}
use Rattle.std.specs.Prelude.{All}
use Rattle.sourceediting.specs.declared.moving.Row.{Row}
use Rattle.sourceediting.specs.Views.{AreMembers}
use Rattle.sourceediting.proofs.Members.{labels_known}
use Rattle.sourceediting.proofs.moving.LibraryWalk.into_moving.Goals as goal

pub returns : goal.returns
returns c = λ living known.
    let parted = subst (λ (rows : List Row). All (λ r. AreMembers living r.members.items) rows) (sym c.as_slice.ensures.value)
    known.parted in
    labels_known living c.part.new.leaving.items _ (c.in_ok-part.ensures living parted known.moved) c.in_ok-labels.ensures

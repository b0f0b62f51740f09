-- What is left to show of `pass`.
use Rattle.sourceediting.proofs.Members.{one_member}
use Rattle.sourceediting.proofs.moving.LibraryWalk.pass.Goals as goal

pub returns : goal.returns
returns c = λ living known is.
    let before = c.in_ok-go_on.ensures living known in record {
      moved = before.moved;
      parted = before.parted;
      row = one_member living _ _ c.args.member before.row is c.in_ok-push.ensures;
    }

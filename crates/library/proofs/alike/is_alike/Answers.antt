-- What is left to show of `is_alike`.
use Rattle.std.proofs.lemmas.Bool.Decides.{same_from_decides}
use Rattle.library.specs.Edits.{is_alike}
use Rattle.library.proofs.LikeFrames.{alike-decides}
use Rattle.library.proofs.alike.is_alike.Goals as goal

pub returns : goal.returns
returns c =
    same_from_decides c.says_no_less.result (is_alike c.args.old.now c.args.new.now) c.says_no_less.ensures
    (alike-decides c.args.old.now c.args.new.now)

-- What is left to show of `crowded_line`.
use Rattle.std.proofs.Common.{◌≡◌, Some, codes, subst}
use Rattle.std.specs.Prelude.{IfOk, string_bytes}
use Rattle.locating.specs.Told.{told_at}
use Rattle.locating.specs.declared.spot.Spot.{Spot}
use Rattle.editscripts.proofs.telling.crowded_line.Goals as goal

pub returns : goal.returns
returns c =
    subst
    (λ (spot : Spot). IfOk c.told_at.result
    (λ line. string_bytes line ≡ told_at c.args.path.now c.args.text.now (Some spot) (codes "over 99 are put at one place")))
    c.spot_at-spot.ensures c.told_at.ensures

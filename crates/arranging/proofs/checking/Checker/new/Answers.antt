use Rattle.std.proofs.Common.{refl}
use Rattle.arranging.proofs.checking.Checker.new.Goals as goal

pub returns : goal.returns
returns c = λ e old known. record {
  known = known;
  text_is = refl;
  first_kept = c.first_kept.ensures e c.args.text.now old known.library_are known.moving_are known.found;
  depths = c.in_ok-depths.ensures;
}

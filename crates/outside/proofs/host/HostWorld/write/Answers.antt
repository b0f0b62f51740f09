use Rattle.std.proofs.Common.{Err, refl}
use Rattle.outside.proofs.Standing.{adds_write}
use Rattle.outside.proofs.host.HostWorld.write.Goals as goal

pub returns-in-Ok-Plain-clause-done : goal.returns-in-Ok-Plain-clause-done
returns-in-Ok-Plain-clause-done g c = adds_write _ _ c.args.path.now c.args.text.now _ c.put_at.result c.put_at.ensures.1.kept

pub returns-in-Ok-Free-clause-done : goal.returns-in-Ok-Free-clause-done
returns-in-Ok-Free-clause-done g c =
    adds_write _ _ c.args.path.now c.args.text.now _ c.put_at-in-Ok-Free.result c.put_at-in-Ok-Free.ensures.1.kept

pub returns-in-Ok-Other-clause-done : goal.returns-in-Ok-Other-clause-done
returns-in-Ok-Other-clause-done g c = adds_write _ _ c.args.path.now c.args.text.now _ c.cut_over.result c.cut_over.ensures.1.kept

pub returns-in-Err-clause-done : goal.returns-in-Err-clause-done
returns-in-Err-clause-done g c = adds_write _ _ c.args.path.now c.args.text.now _ (Err c.not_written.result) refl

use Rattle.std.proofs.Common.{length, sym, ap, ◌∙◌}
use Rattle.stepcheck.proofs.Replaced.{substitution-length}
use Rattle.stepcheck.proofs.substitutes.Substitution.len.Goals as goal

pub returns : goal.returns
returns c = sym (substitution-length c.self.inside.floats.now c.self.inside.args.now c.self.invariant.0) ∙ ap length c.self.view_is

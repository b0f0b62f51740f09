-- What is left to show of `leaning`: places are small.
use Rattle.std.proofs.Common.{◌∙◌, ◌<◌, ◌≤◌, ◌^◌, length, sym, ap, subst}
use Rattle.std.specs.Prelude.{All}
use Rattle.mmsyntax.specs.declared.statement.Frame.{Frame}
use Rattle.mmsyntax.specs.Tables.{Tables}
use Rattle.mmframes.specs.Frames.{frame}
use Rattle.standins.proofs.Leaned.{floats_small, hypotheses_small}
use Rattle.standins.proofs.opening.leaning.Goals as goal

pub citing-requires-clause-floats : goal.citing-requires-clause-floats
citing-requires-clause-floats c =
    let db = c.args.database.now in
    let a = c.args.assertion.now in
    let is = c.in_ok-frame.ensures ∙ ap (λ (t : Tables). frame t a) c.prelude.ensures in
    subst (λ (f : Frame). All (λ place. place < 2 ^ 30) f.floats) (sym is) (floats_small db c.assertions-spelled.ensures.sound a)

pub citing-requires-clause-hypotheses : goal.citing-requires-clause-hypotheses
citing-requires-clause-hypotheses c =
    let db = c.args.database.now in
    let a = c.args.assertion.now in
    let is = c.in_ok-frame.ensures ∙ ap (λ (t : Tables). frame t a) c.prelude.ensures in
    subst (λ (f : Frame). length f.hyps ≤ 2 ^ 30) (sym is) (hypotheses_small db c.assertions-spelled.ensures.sound a c.requires)

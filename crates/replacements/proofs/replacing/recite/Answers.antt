use Rattle.std.proofs.Common.{◌<◌, get_or, length, arith, ap, ◌∙◌}
use Rattle.std.specs.Prelude.{slice_set}
use Rattle.std.proofs.lemmas.List.{get_or_default}
use Rattle.std.proofs.lemmas.List.Edits.{map_over_more}
use Rattle.bodystore.specs.declared.stored.StoredStep.TheVariants.{Float}
use Rattle.replacements.specs.Replacing.{recited_step}
use Rattle.replacements.proofs.replacing.recite.Goals as goal

pub loop-i-preserved : goal.loop-i-preserved
loop-i-preserved c =
    let i = c.loop-i.i in
    let step = get_or c.loop-i.steps c.loop-i.i (Float 0) in
    let within : c.loop-i.i < length c.loop-i.steps = omega arith in
    ap (slice_set c.loop-i.steps i) c.recited.ensures
    ∙ map_over_more (recited_step c.args.slots c.args.old c.args.new) c.args.steps.now c.loop-i.steps i step c.loop-i-test.true
    c.loop-i.invariant (get_or_default c.loop-i.steps i (Float 0) step within)

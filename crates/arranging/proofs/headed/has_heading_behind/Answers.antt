-- What is left to show of `has_heading_behind`.
use Rattle.std.proofs.Common.{◌∙◌, Some, ap, arith}
use Rattle.std.proofs.lemmas.Option.{slice_get-get_or}
use Rattle.leaving.specs.declared.part.Part.{Part}
use Rattle.leaving.specs.declared.part.Part.TheVariants.{Description}
use Rattle.arranging.proofs.Beside.{open_up_to}
use Rattle.arranging.proofs.headed.has_heading_behind.Goals as goal

pub returns-then-is_heading : goal.returns-then-is_heading
returns-then-is_heading c = λ _.
    let ps = c.args.parts.now in
    let at = c.loop-at.at in
    record {
      at = at;
      behind = omega (arith, c.loop-at.auto.at);
      heads =
          slice_get-get_or ps at Description c.loop-at-test.true ∙ ap (λ (p : Part). Some p) (c.is_heading.ensures c.if-is_heading.true);
      inside = open_up_to ps c.args.place at c.loop-at.invariant (c.is_open_at.ensures c.if-not-is_open_at.false);
    }

pub loop-at-preserved : goal.loop-at-preserved
loop-at-preserved c = λ k later lt.
    open_up_to c.args.parts.now c.args.place c.loop-at.at c.loop-at.invariant (c.is_open_at.ensures c.if-not-is_open_at.false) k later
    (omega (arith, lt))

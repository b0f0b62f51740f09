-- What is left to show of `has_heading_in_front`.
use Rattle.std.proofs.Common.{◌-◌, ◌∙◌, Some, ap, arith}
use Rattle.std.proofs.lemmas.Option.{slice_get-get_or}
use Rattle.leaving.specs.declared.part.Part.{Part}
use Rattle.leaving.specs.declared.part.Part.TheVariants.{Description}
use Rattle.arranging.proofs.Beside.{open_from}
use Rattle.arranging.proofs.headed.has_heading_in_front.Goals as goal

pub returns-then-is_heading : goal.returns-then-is_heading
returns-then-is_heading c = λ _.
    let ps = c.args.parts.now in
    let at = c.loop-at.at in
    let within = c.loop-at.invariant.within in
    let now = c.is_open_at.ensures c.if-not-is_open_at.false in
    record {
      at = at - 1;
      in_front = omega (arith, c.loop-at-test.true, within);
      heads =
          slice_get-get_or ps (at - 1) Description (omega (arith, within, c.loop-at-test.true, c.if-place-parts.false))
          ∙ ap (λ (p : Part). Some p) (c.is_heading.ensures c.if-is_heading.true);
      inside = λ k later le.
          open_from ps c.args.place at c.loop-at.invariant.inside now k (omega (arith, later, c.loop-at-test.true)) le;
    }

pub loop-at-preserved : goal.loop-at-preserved
loop-at-preserved c = record {
  within = omega (arith, c.loop-at.invariant.within);
  inside = λ k later le.
      open_from c.args.parts.now c.args.place c.loop-at.at c.loop-at.invariant.inside (c.is_open_at.ensures c.if-not-is_open_at.false) k
      (omega (arith, later, c.loop-at-test.true)) le;
}

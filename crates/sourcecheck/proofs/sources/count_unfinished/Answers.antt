-- What is left to show of `count_unfinished`.
use Rattle.std.proofs.Common.{◌<◌, length, false, sym, ◌∙◌, arith}
use Rattle.std.specs.Option.{option_map_or}
use Rattle.mmsyntax.proofs.Items.{there_is}
use Rattle.source.specs.Scopes.{Assertion}
use Rattle.source.specs.Proofs.{is_unfinished}
use Rattle.sourcecheck.proofs.Sourced.{counted_on, counted_off}
use Rattle.sourcecheck.proofs.sources.count_unfinished.Goals as goal
use Rattle.sourcecheck.proofs.sources.count_unfinished.Goals.{then-is_unfinished_at, else-is_unfinished_at}

pub loop-place-preserved : goal.loop-place-preserved
loop-place-preserved g c =
    let xs = (g.D.Declared.scope c.args.declared.now).assertions in
    let lt : c.loop-place.place < length xs = omega (arith, c.loop-place-test.true, c.assertions-place-end.ensures) in
    let there = there_is xs c.loop-place.place lt in
    let said = c.is_unfinished_at.ensures there.0 there.1 in
    let old = c.loop-place.invariant in
    elim c.if-is_unfinished_at.branch [
      | then-is_unfinished_at w ↦ record {
        counted = counted_on (λ (x : Assertion). option_map_or is_unfinished x.proof false) xs c.loop-place.place there.0 c.loop-place.count
            c.if-is_unfinished_at.count there.1 old.counted (sym said ∙ w.if-is_unfinished_at.true) w.count-is;
        few = omega (arith, w.count-is, old.few);
      }
      | else-is_unfinished_at w ↦ record {
        counted = counted_off (λ (x : Assertion). option_map_or is_unfinished x.proof false) xs c.loop-place.place there.0
            c.loop-place.count
            c.if-is_unfinished_at.count there.1 old.counted (sym said ∙ w.if-is_unfinished_at.false) w.count-is;
        few = omega (arith, w.count-is, old.few);
      }
    ]

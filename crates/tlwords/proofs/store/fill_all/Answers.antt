use Rattle.std.proofs.Common.{◌∙◌}
use Rattle.tlwords.proofs.Fillings.{filled_more}
use Rattle.tlwords.proofs.store.fill_all.Goals as goal

pub loop-i-preserved : goal.loop-i-preserved
loop-i-preserved g c = (
  (
    c.fill.ensures.seat.0 ∙ c.loop-i.invariant.0.0,
    c.fill.ensures.seat.1 ∙ c.loop-i.invariant.0.1,
    c.fill.ensures.seat.2
        ∙ c.loop-i.invariant.0.2,
  ),
  filled_more g.L.Law.terms c.args.range.now c.args.start c.args.seat.now.me c.loop-i.seat.me c.fill.new.seat.me c.loop-i.i
      c.loop-i-test.true
      c.loop-i.invariant.1 c.fill.ensures.told,
)

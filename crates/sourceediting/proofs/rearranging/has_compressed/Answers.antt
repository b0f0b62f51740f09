-- What is left to show of `has_compressed`.
use Rattle.std.proofs.Common.{◌∙◌, sym, arith}
use Rattle.sourceediting.proofs.Compressed.{some_compressed, none_more, none_compressed}
use Rattle.sourceediting.proofs.rearranging.has_compressed.Goals as goal

pub loop-place-init : goal.loop-place-init
loop-place-init g c = λ k low. absurd (omega (arith, low))

pub loop-place-preserved : goal.loop-place-preserved
loop-place-preserved g c =
    none_more (g.D.Declared.scope c.args.declared.now).assertions c.loop-place.place c.loop-place.invariant
    (sym c.is_compressed_at.ensures ∙ c.if-is_compressed_at.false)

pub returns-then-is_compressed_at : goal.returns-then-is_compressed_at
returns-then-is_compressed_at g c =
    sym
    (some_compressed (g.D.Declared.scope c.args.declared.now).assertions c.loop-place.place
    (sym c.is_compressed_at.ensures ∙ c.if-is_compressed_at.true))

pub returns : goal.returns
returns g c =
    sym
    (none_compressed (g.D.Declared.scope c.args.declared.now).assertions c.loop-place.place
    (omega (arith, c.loop-place-test.false, c.assertions-place-end.ensures)) c.loop-place.invariant)

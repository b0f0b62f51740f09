-- What is left to show of `is_noted`.
use Rattle.std.proofs.Common.{◌≡◌, ◌∙◌, ◌<◌, length, subst, sym, arith}
use Rattle.mmsyntax.specs.Blocks.{with_pair}
use Rattle.mmunits.proofs.PairsAgain.{stands_here}
use Rattle.mmunits.proofs.pair_set.PairSet.is_noted.Goals as goal

pub returns-then-place-len : goal.returns-then-place-len
returns-then-place-len c = λ same.
    let s = c.self.inside in
    let within : c.args.place < length s.cells.items = omega arith in
    subst (λ ps. with_pair c.args.pair ps ≡ ps) c.self.view_is
    (stands_here s.pairs.keys s.cells.items c.args.place c.args.pair c.index.result.now c.self.invariant within c.index.ensures
    (sym c.eq.ensures ∙ same))

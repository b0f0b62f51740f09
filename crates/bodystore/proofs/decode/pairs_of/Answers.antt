-- What is left to show of `pairs_of`.
use Rattle.std.proofs.Common.{arith}
use Rattle.bodystore.specs.Bodies.{pair_word, IsSmallPair}
use Rattle.bodystore.proofs.Reading.{decoded, one_more}
use Rattle.bodystore.proofs.decode.pairs_of.Goals as goal

pub loop-word-preserved : goal.loop-word-preserved
loop-word-preserved c = (
  λ pairs small is.
      let i = c.loop-word.word-index in
      let x = c.pair_of.result in
      let own = decoded pair_word IsSmallPair pairs i x c.args.words.now small is c.loop-word-test.true c.pair_of.ensures in
      one_more pairs _ _ i x own.0 (c.loop-word.invariant.0 pairs small is) c.push_reserved.ensures.items own.1,
  omega arith,
  omega arith,
)

-- What is left to show of `decode_proof`.
use Rattle.std.proofs.Common.{arith}
use Rattle.bodystore.specs.Bodies.{step_word, IsSmallStep}
use Rattle.bodystore.proofs.Reading.{decoded, one_more}
use Rattle.bodystore.proofs.decode.decode_proof.Goals as goal

pub loop-word-preserved : goal.loop-word-preserved
loop-word-preserved c = (
  λ steps small is.
      let i = c.loop-word.word-index in
      let x = c.of_word.result in
      let own = decoded step_word IsSmallStep steps i x c.args.words.now small is c.loop-word-test.true c.of_word.ensures.own in
      one_more steps _ _ i x own.0 (c.loop-word.invariant.0 steps small is) c.push_reserved.ensures.items own.1,
  omega arith,
  omega arith,
)

-- What is left to show of `spoken_in`.
use Rattle.expanding.proofs.AskedWords.{spoken_next}
use Rattle.expanding.proofs.asking.spoken_in.Goals as goal

pub loop-word-preserved : goal.loop-word-preserved
loop-word-preserved c =
    spoken_next c.args.script.now c.loop-word.word-index _ c.loop-word-test.true c.loop-word.words.items _ c.in_ok-push.ensures.items
    c.loop-word.invariant

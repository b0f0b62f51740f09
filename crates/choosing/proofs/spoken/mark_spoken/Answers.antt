-- What is left to show of `mark_spoken`.
use Rattle.choosing.proofs.Speaking.{words_more}
use Rattle.choosing.proofs.spoken.mark_spoken.Goals as goal

pub loop-word-preserved : goal.loop-word-preserved
loop-word-preserved g c =
    λ test are. words_more (g.D.Declared.scope c.args.declared.now).assertions c.args.words.now c.loop-word.word-index _ c.loop-word.marks
    c.mark.new.marks test c.loop-word-test.true (c.loop-word.invariant test are) c.mark.ensures.marked

-- What is left to show of `words_of`.
use Rattle.std.proofs.Common.{rules}
use Rattle.taketext.proofs.Words.{words_more}
use Rattle.taketext.proofs.origin.words_of.Goals as goal

pub loop-word-preserved : goal.loop-word-preserved
loop-word-preserved c =
    words_more c.loop-word.words.items c.push.new.self.items c.in-Some.word c.in-Some.behind.now c.loop-word.left.now c.args.line.now
    c.in_ok-push.ensures.items c.loop-word.invariant (search rules)

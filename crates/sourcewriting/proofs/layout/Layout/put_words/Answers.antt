-- What is left to show of `put_words`.
use Rattle.std.proofs.Common.{◌∙◌, ℕ, List, []}
use Rattle.std.specs.Borrow.{Bor}
use Rattle.sourcewriting.proofs.Added.{word_is_spelled}
use Rattle.sourcewriting.proofs.layout.Layout.put_words.Goals as goal

pub loop-word-preserved : goal.loop-word-preserved
loop-word-preserved c = λ all.
    let d : Bor (List ℕ) = record { ref_ptr = (0, 0); now = [] } in
    c.put_word.ensures.fine (word_is_spelled c.args.words.now c.loop-word.word-index d c.loop-word-test.true all)
    ∙ c.loop-word.invariant all

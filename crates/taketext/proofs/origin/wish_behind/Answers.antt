-- What is left to show of `wish_behind`.
use Rattle.std.proofs.Common.{◌∙◌, sym}
use Rattle.taketext.proofs.WishWords.{no_word, all_told, between_told}
use Rattle.taketext.proofs.origin.wish_behind.Goals as goal

pub returns-in-len1 : goal.returns-in-len1
returns-in-len1 c =
    all_told c.args.first.now c.args.others.now no_word c.in-len1.len_at_least c.in-len1.len_below
    (sym c.are_words.ensures ∙ c.if-are_words.true)

pub returns-in-len3 : goal.returns-in-len3
returns-in-len3 c =
    between_told c.args.first.now c.args.others.now no_word c.in-len3.len_at_least c.in-len3.len_below
    (sym c.are_words-then-others-lt4.ensures ∙ c.if-are_words-2.true)

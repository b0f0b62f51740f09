-- What is left to show of the comparison of two words: the words of what they show are theirs.
use Rattle.std.proofs.Common.{◌≡◌, ap, sym, ◌∙◌}
use Rattle.mmsyntax.specs.SymbolWords.{word_of_symbol, same_word}
use Rattle.mmsyntax.proofs.symbol_word.SymbolWordPartialEq.eq.Goals as goal

pub returns : goal.returns
returns c =
    let one : word_of_symbol c.args.self.now ≡ c.t1-1.inside.word = ap word_of_symbol (sym c.t1-1.view_is) ∙ same_word c.t1-1.inside.word in
    let other : word_of_symbol c.args.other.now ≡ c.t2-1.inside.word =
    ap word_of_symbol (sym c.t2-1.view_is) ∙ same_word c.t2-1.inside.word in
    rw (one, other) c.eq.ensures

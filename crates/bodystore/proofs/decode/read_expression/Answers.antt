-- What is left to show of `read_expression`.
use Rattle.std.proofs.Common.{◌≡◌, ◌≤◌, ◌++◌, length, map, sym, ap, ◌∙◌, arith}
use Rattle.std.proofs.lemmas.List.{take_all, length-append, length-map}
use Rattle.bodystore.specs.Bodies.{symbol_word, IsSmallSymbol}
use Rattle.bodystore.proofs.Reading.{decoded, one_more, front_back}
use Rattle.bodystore.proofs.decode.read_expression.Goals as goal

pub loop-word-preserved : goal.loop-word-preserved
loop-word-preserved c = (
  λ e small is.
      let i = c.loop-word.word-index in
      let x = c.symbol_of.result in
      let own = decoded symbol_word IsSmallSymbol e i x c.take-words.result.now small is c.loop-word-test.true c.symbol_of.ensures in
      one_more e _ _ i x own.0 (c.loop-word.invariant.0 e small is) c.push_reserved.ensures.items own.1,
  omega arith,
  omega arith,
)

pub returns : goal.returns
returns c e more small is =
    let i = c.loop-word.word-index in
    let words = map symbol_word e in
    let long = length-append words more in
    let count = length-map e symbol_word in
    let room : length e ≤ length (words ++ more) = omega (arith, long, count) in
    let counted = c.count-count.ensures.more _ _ is room in
    let n : c.count-count.result ≡ length words = counted.0 ∙ sym count in
    let split = front_back words more _ _ counted.1 n in
    let read : c.take-words.result.now ≡ words = c.take-words.ensures.words ∙ split.0 in
    let past : length e ≤ i = let l = ap length read in omega (arith, l, count, c.loop-word-test.false) in (
      c.from_vec.ensures ∙ c.loop-word.invariant.0 e small (sym read) ∙ take_all i e past,
      c.take-words.ensures.rest ∙ split.1,
    )

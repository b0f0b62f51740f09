-- What is left to show of `decode_statement`.
use Rattle.std.proofs.Common.{◌≡◌, ◌<◌, ◌≤◌, ◌++◌, [], length, map, sym, ap, ◌∙◌, arith}
use Rattle.std.specs.Prelude.{All}
use Rattle.std.proofs.lemmas.List.{take_all, drop_all, append-nil, length-append, length-map}
use Rattle.std.proofs.lemmas.List.Elements.{All-get_or}
use Rattle.bodystore.specs.Bodies.{pair_word, expression_words, expressions_words, IsSmallSymbol}
use Rattle.bodystore.proofs.Reading.{next_words, one_more, few_items, front_back}
use Rattle.bodystore.proofs.decode.decode_statement.Goals as goal

pub loop-init : goal.loop-init
loop-init c = (
  λ s small is.
      let hyps = expressions_words s.hyps ++ expression_words s.statement in
      let words = map pair_word s.pairs in
      let rest = words ++ hyps in
      let pairs_long = length-append words hyps in
      let hyps_long = length-append (expressions_words s.hyps) (expression_words s.statement) in
      let count = length-map s.pairs pair_word in
      let few_pairs : length s.pairs ≤ length rest = omega (arith, pairs_long, count) in
      let few = few_items expression_words (λ e. omega arith) s.hyps in
      let few_hyps : length s.hyps ≤ length rest = omega (arith, pairs_long, hyps_long, few) in
      let kind = c.next.ensures.more _ _ (c.new-cursor.ensures ∙ sym is) in
      let pair_count = c.count-pair_count.ensures.more _ _ kind.1 (omega (arith, few_pairs)) in
      let hyp_count = c.count-hyp_count.ensures.more _ _ pair_count.1 few_hyps in
      let split = front_back words hyps _ _ hyp_count.1 (pair_count.0 ∙ sym count) in
      record {
        kind = c.kind_of-kind.ensures s.kind (sym kind.0);
        hyp_count = hyp_count.0;
        pairs = c.in_ok-pairs.ensures s.pairs small.pairs (sym (c.take.ensures.words ∙ split.0));
        hyps = c.in_ok-hyps.ensures.items;
        cursor = c.take.ensures.rest ∙ split.1;
      },
  c.in_ok-hyps.ensures.len,
  omega (arith, c.in_ok-hyps.ensures.exact),
)

pub loop-preserved : goal.loop-preserved
loop-preserved c = (
  λ s small is.
      let i = c.loop.counter in
      let x = c.in_ok-read_expression.field-0 in
      let kept = c.loop.invariant.0 s small is in
      let count : c.count-hyp_count.result ≡ length s.hyps = kept.hyp_count in
      let lt : i < length s.hyps = omega (arith, c.loop-test.true) in
      let own = All-get_or (All IsSmallSymbol) s.hyps i x lt small.hyps in
      let read = c.in_ok-read_expression.ensures _ _ own (kept.cursor ∙ next_words expression_words s.hyps i x _ lt) in
      record {
        kind = kept.kind;
        hyp_count = count;
        pairs = kept.pairs;
        hyps = one_more s.hyps _ _ i x lt kept.hyps c.push_reserved.ensures.items read.0;
        cursor = read.1;
      },
  omega arith,
  omega arith,
)

pub returns : goal.returns
returns c s small is =
    let i = c.loop.counter in
    let kept = c.loop.invariant.0 s small is in
    let count : c.count-hyp_count.result ≡ length s.hyps = kept.hyp_count in
    let past : length s.hyps ≤ i = omega (arith, c.loop-test.false) in
    let last = kept.cursor ∙ ap (λ es. expressions_words es ++ expression_words s.statement) (drop_all i s.hyps past)
    ∙ sym (append-nil (expression_words s.statement)) in
    let pairs = c.from_vec.ensures ∙ kept.pairs in
    let hyps = c.from_vec-2.ensures ∙ kept.hyps ∙ take_all i s.hyps past in
    let statement = c.in_ok-statement.ensures s.statement [] small.statement last in
    λ j. record { kind = kept.kind j; pairs = pairs j; hyps = hyps j; statement = statement.0 j }

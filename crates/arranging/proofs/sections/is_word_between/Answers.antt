-- What is left to show of `is_word_between`.
use Rattle.std.proofs.Common.{◌∙◌, sym, subst}
use Rattle.std.specs.Prelude.{IsTrue}
use Rattle.mmtext.specs.Views.{seen}
use Rattle.mmtext.specs.Comments.{words_of}
use Rattle.mmtext.proofs.Marks.{same_word}
use Rattle.source.specs.Scopes.{is_in}
use Rattle.items.specs.Items.{words}
use Rattle.items.specs.Reading.{tokens_at, end_of}
use Rattle.arranging.proofs.Said.{first_word, is_in_here, is_in_later}
use Rattle.arranging.proofs.sections.is_word_between.Goals as goal

pub returns-then-eq-clause-of_item : goal.returns-then-eq-clause-of_item
returns-then-eq-clause-of_item c = λ x h _.
    let w = c.in-Some.token.text.now in
    let word = c.args.word.now in
    let l = c.loop-at.invariant.of_item x h in
    let f =
    first_word c.args.text.now c.loop-at.at c.args.end l.0 (seen c.in-Some.token) _ l.1 c.loop-at-test.true c.in-Some.ensures.some in
    l.2 (subst (λ ws. IsTrue (is_in ws word)) (sym f.2)
    (is_in_here w (words f.0) word (same_word w word (sym c.eq.ensures ∙ c.if-eq.true))))

pub loop-at-preserved : goal.loop-at-preserved
loop-at-preserved c =
    let text = c.args.text.now in
    let t = seen c.in-Some.token in
    let word = c.args.word.now in
    let next = c.in-Some.ensures in
    record {
      within = next.within;
      of_text = λ is.
          c.loop-at.invariant.of_text
          (subst (λ ts. IsTrue (is_in (words_of ts) word)) (sym next.some)
          (is_in_later t.text (words_of (tokens_at text (end_of t))) word is));
      of_item = λ x h.
          let l = c.loop-at.invariant.of_item x h in
          let f = first_word text c.loop-at.at c.args.end l.0 t _ l.1 c.loop-at-test.true next.some in (
            f.0,
            f.1,
            λ is. l.2 (subst (λ ws. IsTrue (is_in ws word)) (sym f.2) (is_in_later t.text (words f.0) word is)),
          );
    }

-- What is left to show of `said_of`: a line for one more word, and that there are as many lines as words.
use Rattle.std.proofs.Common.{◌≡◌, ◌∙◌, [], ◌∷◌, ◌++◌, length, map, ap, arith, rules, length-append}
use Rattle.std.specs.Slice.Iter.{iter_rest}
use Rattle.std.specs.Iterator.Adapters.{zip_first, zip_second}
use Rattle.std.proofs.lemmas.List.{length-map, take_all}
use Rattle.std.proofs.lemmas.Slice.Zip.{zip_turn, zip_end}
use Rattle.mmtext.specs.Views.{seen}
use Rattle.mmtext.specs.declared.token.Token.{Token as CodeToken}
use Rattle.locating.specs.Lines.{line_at}
use Rattle.editedsource.specs.Gone.{spoken_line}
use Rattle.editedsource.proofs.Picked.{line_there, said_next}
use Rattle.editedsource.proofs.spoken.said_of.Goals as goal

pub loop-line-preserved : goal.loop-line-preserved
loop-line-preserved c =
    let lines = c.in_ok-lines.lines.items in
    let words = c.args.words.now in
    let out = c.args.out.now in
    let first : iter_rest (zip_first c.into_iter-line-iterator.result) ≡ lines = search rules in
    let second : iter_rest (zip_second c.into_iter-line-iterator.result) ≡ words = search rules in
    let yielded = c.loop-line.yielded in
    let turn = zip_turn lines words yielded c.into_iter-line-iterator.result c.loop-line.line-iterator c.next.new.self c.next.result
    first second c.loop-line.yielded_by (c.in-Some.line, c.in-Some.word) c.in-Some.is c.next.ensures.steps in
    let line = c.in-Some.line.now in
    let word = c.in-Some.word.now in
    said_next c.args.path.now out words (length yielded) (length (yielded ++ (c.in-Some.line, c.in-Some.word) ∷ [])) line word
    c.loop-line.said.items _ c.in_ok-line_of.field-0 (length-append yielded ((c.in-Some.line, c.in-Some.word) ∷ [])) turn.1 (turn.3 word)
    (line_there out words c.as_slice.result.now lines (length yielded) line word turn.1
    (c.as_slice.ensures.value ∙ c.in_ok-places.ensures) c.in_ok-lines.ensures (turn.2 line) (turn.3 word))
    c.in_ok-line_of.ensures c.loop-line.invariant c.in_ok-push.ensures.items

pub returns : goal.returns
returns c =
    let lines = c.in_ok-lines.lines.items in
    let words = c.args.words.now in
    let first : iter_rest (zip_first c.into_iter-line-iterator.result) ≡ lines = search rules in
    let second : iter_rest (zip_second c.into_iter-line-iterator.result) ≡ words = search rules in
    let yielded = c.loop-line.yielded in
    let end = zip_end lines words yielded c.into_iter-line-iterator.result c.loop-line.line-iterator c.next.new.self c.next.result
    first second c.loop-line.yielded_by c.in-None.is c.next.ensures.steps in
    let long : length lines ≡ length words =
    ap length (c.in_ok-lines.ensures ∙ ap (map (λ place. line_at c.args.out.now place)) (c.as_slice.ensures.value ∙ c.in_ok-places.ensures))
    ∙ length-map (map (λ (t : CodeToken). t.place) words) (λ place. line_at c.args.out.now place)
    ∙ length-map words (λ (t : CodeToken). t.place) in
    c.loop-line.invariant
    ∙ ap (λ ws. map (spoken_line c.args.path.now c.args.out.now) (map seen ws)) (take_all (length yielded) words (omega (arith, end, long)))

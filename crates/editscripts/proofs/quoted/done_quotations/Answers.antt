-- What is left to show of `done_quotations`.
use Rattle.std.proofs.Common.{rules, ◌≡◌, ◌∙◌, ◌++◌, ◌∷◌, [], List, length, length-append, map, take, reverse, sym, ap, Vec, Global}
use Rattle.std.specs.List.{flat_map, zip}
use Rattle.std.specs.Slice.Iter.{iter_rest}
use Rattle.std.specs.Iterator.Adapters.{zip_first, zip_second}
use Rattle.std.proofs.lemmas.Slice.Zip.{zip_turn, zip_end}
use Rattle.taking.proofs.Turned.{turned_map}
use Rattle.transaction.specs.Closings.{lists_of}
use Rattle.transaction.specs.declared.outcome.Outcome.{Outcome}
use Rattle.pasting.specs.Quotes.{Quotation, Quote}
use Rattle.pasting.specs.Views.{seen_quotation, seen_quote}
use Rattle.pasting.specs.declared.quotes.Quote.{Quote as CodeQuote}
use Rattle.editscripts.specs.Quoted.{quoted_of}
use Rattle.editscripts.specs.Views.{seen_quotes}
use Rattle.editscripts.proofs.Chosen.{flat_zip_next, zip_all}
use Rattle.editscripts.proofs.quoted.done_quotations.Goals as goal

pub loop-row-preserved : goal.loop-row-preserved
loop-row-preserved c =
    let rows = c.args.rows.now in
    let all = c.args.all.now in
    let first : iter_rest (zip_first c.into_iter-row-iterator.result) ≡ rows = search rules in
    let second : iter_rest (zip_second c.into_iter-row-iterator.result) ≡ all = search rules in
    let turn = zip_turn rows all c.loop-row.yielded c.into_iter-row-iterator.result c.loop-row.row-iterator c.next.new.self c.next.result
    first second c.loop-row.yielded_by (c.in-Some.row, c.in-Some.quotes) c.in-Some.is c.next.ensures.steps in
    let n = length c.loop-row.yielded in
    let row = c.in-Some.row.now in
    let quotes = c.in-Some.quotes.now in
    let I = λ (r : Vec Outcome Global). r.items in
    let J = λ (ds : Vec CodeQuote Global). map seen_quote ds.items in
    let F : List Outcome × List Quote → List Quotation = λ p. quoted_of p.0 p.1 in
    let pairs = zip (lists_of rows) (seen_quotes all) in
    let before = flat_map F (take n pairs) in
    let given = c.as_slice-in-loop-row.result.now in
    c.in_ok-put_done.ensures
    ∙ ap (λ (l : List Quotation). l ++ quoted_of c.as_slice.result.now (map seen_quote given)) c.loop-row.invariant
    ∙ ap (λ (r : List Outcome). before ++ quoted_of r (map seen_quote given)) c.as_slice.ensures.value
    ∙ ap (λ (ds : List CodeQuote). before ++ quoted_of row.items (map seen_quote ds)) c.as_slice-in-loop-row.ensures.value
    ∙ sym (flat_zip_next F I J rows all n row quotes turn.0 turn.1 (turn.2 row) (turn.3 quotes))
    ∙ ap (λ k. flat_map F (take k pairs)) (sym (length-append c.loop-row.yielded ((c.in-Some.row, c.in-Some.quotes) ∷ [])))

pub returns : goal.returns
returns c =
    let rows = c.args.rows.now in
    let all = c.args.all.now in
    let first : iter_rest (zip_first c.into_iter-row-iterator.result) ≡ rows = search rules in
    let second : iter_rest (zip_second c.into_iter-row-iterator.result) ≡ all = search rules in
    let end = zip_end rows all c.loop-row.yielded c.into_iter-row-iterator.result c.loop-row.row-iterator c.next.new.self c.next.result
    first second c.loop-row.yielded_by c.in-None.is c.next.ensures.steps in
    let I = λ (r : Vec Outcome Global). r.items in
    let J = λ (ds : Vec CodeQuote Global). map seen_quote ds.items in
    let F : List Outcome × List Quote → List Quotation = λ p. quoted_of p.0 p.1 in
    ap (map seen_quotation) c.reverse.ensures.items
    ∙ turned_map seen_quotation c.loop-row.made.items
    ∙ ap reverse (c.loop-row.invariant ∙ ap (flat_map F) (zip_all I J rows all (length c.loop-row.yielded) end))

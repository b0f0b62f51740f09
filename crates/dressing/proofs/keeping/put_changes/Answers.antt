-- What is left to show of `put_changes`.
use Rattle.std.proofs.Common.{◌≡◌, ◌∙◌, ◌++◌, ◌∷◌, [], ℕ, List, Bor, rules, length, length-append, take, sym, ap}
use Rattle.std.specs.Prelude.{filter}
use Rattle.std.specs.List.{zip}
use Rattle.std.specs.Slice.Iter.{iter_rest}
use Rattle.std.specs.Iterator.Adapters.{zip_first, zip_second}
use Rattle.std.proofs.lemmas.List.{map_push}
use Rattle.std.proofs.lemmas.Slice.Zip.{zip_turn, zip_end}
use Rattle.giving.specs.Staying.{Change}
use Rattle.source.specs.Views.{seen_pairs, seen_words}
use Rattle.dressing.proofs.Changing.{differs, one_changes, one_stays, all_pairs}
use Rattle.dressing.proofs.keeping.put_changes.Goals as goal

pub loop-old-preserved-in-Continue-1 : goal.loop-old-preserved-in-Continue-1
loop-old-preserved-in-Continue-1 c =
    let olds = c.args.olds.now in
    let news = c.args.news.now in
    let first : iter_rest (zip_first c.into_iter-old-iterator.result) ≡ olds = search rules in
    let second : iter_rest (zip_second c.into_iter-old-iterator.result) ≡ news = search rules in
    let turn = zip_turn olds news c.loop-old.yielded c.into_iter-old-iterator.result c.loop-old.old-iterator c.next.new.self c.next.result
    first second c.loop-old.yielded_by (c.in-Some.old, c.in-Some.new) c.in-Some.is c.next.ensures.steps in
    let n = length c.loop-old.yielded in
    let x = c.in-Some.old.now in
    let y = c.in-Some.new.now in
    let old = seen_pairs c.args.changes.now.items in
    ap seen_pairs c.in_ok-push.ensures.items
    ∙ map_push (λ (p : Bor (List ℕ) × Bor (List ℕ)). (p.0.now, p.1.now)) c.loop-old.changes.items (x, y)
    ∙ one_changes olds news n x y turn.0 turn.1 (turn.2 x) (turn.3 y) old (seen_pairs c.loop-old.changes.items) c.loop-old.invariant
    (sym c.if-ne.true ∙ c.ne.ensures)
    ∙ ap (λ k. old ++ filter differs (take k (zip (seen_words olds) (seen_words news))))
    (sym (length-append c.loop-old.yielded ((c.in-Some.old, c.in-Some.new) ∷ [])))

pub loop-old-preserved : goal.loop-old-preserved
loop-old-preserved c =
    let olds = c.args.olds.now in
    let news = c.args.news.now in
    let first : iter_rest (zip_first c.into_iter-old-iterator.result) ≡ olds = search rules in
    let second : iter_rest (zip_second c.into_iter-old-iterator.result) ≡ news = search rules in
    let turn = zip_turn olds news c.loop-old.yielded c.into_iter-old-iterator.result c.loop-old.old-iterator c.next.new.self c.next.result
    first second c.loop-old.yielded_by (c.in-Some.old, c.in-Some.new) c.in-Some.is c.next.ensures.steps in
    let n = length c.loop-old.yielded in
    let x = c.in-Some.old.now in
    let y = c.in-Some.new.now in
    let old = seen_pairs c.args.changes.now.items in
    one_stays olds news n x y turn.0 turn.1 (turn.2 x) (turn.3 y) old (seen_pairs c.loop-old.changes.items) c.loop-old.invariant
    (sym c.if-ne.false ∙ c.ne.ensures)
    ∙ ap (λ k. old ++ filter differs (take k (zip (seen_words olds) (seen_words news))))
    (sym (length-append c.loop-old.yielded ((c.in-Some.old, c.in-Some.new) ∷ [])))

pub returns : goal.returns
returns c =
    let olds = c.args.olds.now in
    let news = c.args.news.now in
    let first : iter_rest (zip_first c.into_iter-old-iterator.result) ≡ olds = search rules in
    let second : iter_rest (zip_second c.into_iter-old-iterator.result) ≡ news = search rules in
    let end = zip_end olds news c.loop-old.yielded c.into_iter-old-iterator.result c.loop-old.old-iterator c.next.new.self c.next.result
    first second c.loop-old.yielded_by c.in-None.is c.next.ensures.steps in
    c.loop-old.invariant
    ∙ ap (λ (ps : List Change). seen_pairs c.args.changes.now.items ++ filter differs ps)
    (all_pairs olds news (length c.loop-old.yielded) end)

-- What is left to show of `push_where`.
use Rattle.std.proofs.Common.{rules, ◌≡◌, ◌∙◌, ◌++◌, ◌∷◌, [], length, take, sym, ap, append_assoc, append-nil, length-append, true, false}
use Rattle.std.specs.Slice.Iter.{iter_rest}
use Rattle.std.specs.Iterator.Adapters.{zip_first, zip_second}
use Rattle.std.proofs.lemmas.Slice.Zip.{zip_turn, zip_end}
use Rattle.taking.specs.Walks.{picked}
use Rattle.taking.proofs.Picked.{picked_on, picked_all}
use Rattle.taking.proofs.listing.push_where.Goals as goal

pub loop-argument-preserved-in-Continue-1 : goal.loop-argument-preserved-in-Continue-1
loop-argument-preserved-in-Continue-1 c =
    let first : iter_rest (zip_first c.into_iter-argument-iterator.result) ≡ c.args.arguments.now = search rules in
    let second : iter_rest (zip_second c.into_iter-argument-iterator.result) ≡ c.args.floats.now = search rules in
    let turn = zip_turn c.args.arguments.now c.args.floats.now c.loop-argument.yielded c.into_iter-argument-iterator.result
    c.loop-argument.argument-iterator c.next.new.self c.next.result first second c.loop-argument.yielded_by
    (c.in-Some.argument, c.in-Some.is_float) c.in-Some.is c.next.ensures.steps in
    let x = c.in-Some.argument.now in
    let f = c.in-Some.is_float.now in
    let n = length c.loop-argument.yielded in
    let old = c.args.pending.now.items in
    c.in_ok-push.ensures.items
    ∙ ap (λ ys. ys ++ x ∷ []) c.loop-argument.invariant
    ∙ append_assoc old (picked c.args.wanted (take n c.args.floats.now) (take n c.args.arguments.now)) (x ∷ [])
    ∙ ap (λ ys. old ++ ys) (sym (picked_on c.args.wanted c.args.floats.now c.args.arguments.now n
    (length (c.loop-argument.yielded ++ (c.in-Some.argument, c.in-Some.is_float) ∷ [])) f x true
    (length-append c.loop-argument.yielded ((c.in-Some.argument, c.in-Some.is_float) ∷ [])) turn.0 turn.1 (turn.2 x) (turn.3 f)
    c.if-is_float-wanted.true))

pub loop-argument-preserved : goal.loop-argument-preserved
loop-argument-preserved c =
    let first : iter_rest (zip_first c.into_iter-argument-iterator.result) ≡ c.args.arguments.now = search rules in
    let second : iter_rest (zip_second c.into_iter-argument-iterator.result) ≡ c.args.floats.now = search rules in
    let turn = zip_turn c.args.arguments.now c.args.floats.now c.loop-argument.yielded c.into_iter-argument-iterator.result
    c.loop-argument.argument-iterator c.next.new.self c.next.result first second c.loop-argument.yielded_by
    (c.in-Some.argument, c.in-Some.is_float) c.in-Some.is c.next.ensures.steps in
    let x = c.in-Some.argument.now in
    let f = c.in-Some.is_float.now in
    let n = length c.loop-argument.yielded in
    c.loop-argument.invariant
    ∙ ap (λ ys. c.args.pending.now.items ++ ys) (sym (picked_on c.args.wanted c.args.floats.now c.args.arguments.now n
    (length (c.loop-argument.yielded ++ (c.in-Some.argument, c.in-Some.is_float) ∷ [])) f x false
    (length-append c.loop-argument.yielded ((c.in-Some.argument, c.in-Some.is_float) ∷ [])) turn.0 turn.1 (turn.2 x) (turn.3 f)
    c.if-is_float-wanted.false ∙ append-nil (picked c.args.wanted (take n c.args.floats.now) (take n c.args.arguments.now))))

pub returns : goal.returns
returns c =
    let first : iter_rest (zip_first c.into_iter-argument-iterator.result) ≡ c.args.arguments.now = search rules in
    let second : iter_rest (zip_second c.into_iter-argument-iterator.result) ≡ c.args.floats.now = search rules in
    let end = zip_end c.args.arguments.now c.args.floats.now c.loop-argument.yielded c.into_iter-argument-iterator.result
    c.loop-argument.argument-iterator c.next.new.self c.next.result first second c.loop-argument.yielded_by c.in-None.is
    c.next.ensures.steps in
    c.loop-argument.invariant
    ∙ ap (λ ys. c.args.pending.now.items ++ ys) (picked_all c.args.wanted c.args.floats.now c.args.arguments.now (length
    c.loop-argument.yielded) end)

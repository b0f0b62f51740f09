-- What is left to show of `first_not_staying`.
use Rattle.std.proofs.Common.{rules, ◌≡◌, ◌<◌, ℕ, Some, length, get_or, refl, subst}
use Rattle.giving.specs.Staying.{others, IsFirstNotStaying}
use Rattle.giving.proofs.Ordered.{place_within, goes_on, breaks, ends_before, others_left}
use Rattle.giving.proofs.staying.first_not_staying.Goals as goal

pub returns-in_default : goal.returns-in_default
returns-in_default g c =
    let xs = (g.D.Declared.scope c.args.old.now).assertions in
    let ys = (g.E.Declared.scope c.args.new.now).assertions in
    ends_before c.args.changes.now xs ys (others c.args.chosen.now xs) (others c.args.taken.now ys) c.in_ok-places.places.items
    c.in_ok-others.others.items (c.in_ok-places.ensures xs (search rules)) (c.in_ok-others.ensures ys (search rules)) c.loop-number.number
    c.loop-number.invariant (search rules) (search rules)

pub stays-requires : goal.stays-requires
stays-requires g c κs =
    let xs = (g.D.Declared.scope c.args.old.now).assertions in
    let ys = (g.E.Declared.scope c.args.new.now).assertions in
    let place : ℕ = get_or c.deref-place-items.result.now c.loop-number.number 0 in
    let old : place < length xs =
    place_within xs (others c.args.chosen.now xs) c.in_ok-places.places.items c.loop-number.number place
    (c.in_ok-places.ensures xs (search rules)) (search rules) (search rules) in
    let new : c.in-Some.other.now < length ys =
    place_within ys (others c.args.taken.now ys) c.in_ok-others.others.items c.loop-number.number c.in-Some.other.now
    (c.in_ok-others.ensures ys (search rules)) (search rules) (search rules) in
    ((refl, tt), (old, new))

pub returns-then-not-branch : goal.returns-then-not-branch
returns-then-not-branch g c =
    let xs = (g.D.Declared.scope c.args.old.now).assertions in
    let ys = (g.E.Declared.scope c.args.new.now).assertions in
    breaks c.args.changes.now xs ys (others c.args.chosen.now xs) (others c.args.taken.now ys) c.in_ok-places.places.items
    c.in_ok-others.others.items (c.in_ok-places.ensures xs (search rules)) (c.in_ok-others.ensures ys (search rules)) c.loop-number.number
    c.loop-number.invariant (search rules) (search rules) (search rules)

pub loop-number-preserved : goal.loop-number-preserved
loop-number-preserved g c =
    let xs = (g.D.Declared.scope c.args.old.now).assertions in
    let ys = (g.E.Declared.scope c.args.new.now).assertions in
    goes_on c.args.changes.now xs ys (others c.args.chosen.now xs) (others c.args.taken.now ys) c.in_ok-places.places.items
    c.in_ok-others.others.items (c.in_ok-places.ensures xs (search rules)) (c.in_ok-others.ensures ys (search rules)) c.loop-number.number
    c.loop-number.invariant (search rules) (search rules) (search rules)

pub returns-then-len : goal.returns-then-len
returns-then-len g c =
    let xs = (g.D.Declared.scope c.args.old.now).assertions in
    let ys = (g.E.Declared.scope c.args.new.now).assertions in
    let all : c.loop-number.number ≡ c.len-then-len.result = search rules in
    subst (λ k. IsFirstNotStaying c.args.changes.now (others c.args.chosen.now xs) (others c.args.taken.now ys) (Some k)) all
    (others_left c.args.changes.now xs ys (others c.args.chosen.now xs) (others c.args.taken.now ys) c.in_ok-places.places.items
    c.in_ok-others.others.items (c.in_ok-places.ensures xs (search rules)) (c.in_ok-others.ensures ys (search rules)) c.loop-number.number
    c.loop-number.invariant (search rules) (search rules))

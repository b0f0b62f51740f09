-- What is left to show of `gathered`.
use Rattle.std.proofs.Common.{◌∙◌, get_or, refl, ap, subst, sym, arith}
use Rattle.std.proofs.lemmas.List.{map_push}
use Rattle.sourcewriting.specs.Groups.{has_pair, restricted, seen_groups}
use Rattle.sourcewriting.proofs.Groups.{AreGroupedTo, none_grouped, grouped_before, grouped_new, all_grouped}
use Rattle.sourcewriting.proofs.grouping.gathered.Goals as goal

pub loop-one-init : goal.loop-one-init
loop-one-init c = subst (AreGroupedTo c.args.pairs.now 0) (sym (ap seen_groups c.new-groups.ensures.items)) (none_grouped c.args.pairs.now)

pub loop-one-preserved-then-are_restricted : goal.loop-one-preserved-then-are_restricted
loop-one-preserved-then-are_restricted c =
    let pair = get_or c.args.pairs.now c.loop-one.one-index (0, 0) in
    grouped_before c.args.pairs.now c.loop-one.one-index (0, 0) (seen_groups c.loop-one.groups.items) c.loop-one-test.true
    (ap (λ gs. has_pair (restricted (seen_groups gs)) pair.0 pair.1) (sym c.as_slice.ensures.value) ∙ c.if-are_restricted.ensures refl)
    c.loop-one.invariant

pub loop-one-preserved : goal.loop-one-preserved
loop-one-preserved c =
    grouped_new c.args.pairs.now c.loop-one.one-index (0, 0) (seen_groups c.loop-one.groups.items) (seen_groups c.push.new.self.items)
    c.in_ok-group_of.field-0.items c.loop-one-test.true c.in_ok-group_of.ensures
    (ap seen_groups c.in_ok-push.ensures.items ∙ map_push (λ g. g.items) c.loop-one.groups.items c.in_ok-group_of.field-0)
    c.loop-one.invariant

pub returns : goal.returns
returns c =
    all_grouped c.args.pairs.now (seen_groups c.loop-one.groups.items)
    (subst (λ i. AreGroupedTo c.args.pairs.now i (seen_groups c.loop-one.groups.items))
    (let over = c.loop-one-test.false in let within = c.loop-one.auto.one-index-end in omega (arith, over, within)) c.loop-one.invariant)

-- What is left to show of `each_alone`.
use Rattle.std.proofs.Common.{◌∙◌, ap, subst, sym, arith}
use Rattle.std.proofs.lemmas.List.{map_push}
use Rattle.sourcewriting.specs.Groups.{seen_groups}
use Rattle.sourcewriting.proofs.Groups.{AreGroupedTo, none_grouped, group_begun, pair_there, grouped_new, all_grouped}
use Rattle.sourcewriting.proofs.grouping.each_alone.Goals as goal

pub loop-one-init : goal.loop-one-init
loop-one-init c = subst (AreGroupedTo c.args.pairs.now 0) (sym (ap seen_groups c.new-groups.ensures.items)) (none_grouped c.args.pairs.now)

pub loop-one-preserved : goal.loop-one-preserved
loop-one-preserved c =
    let group = c.in_ok-from_slice.field-0 in
    grouped_new c.args.pairs.now c.loop-one.one-index (0, 0) (seen_groups c.loop-one.groups.items) (seen_groups c.push.new.self.items)
    group.items c.loop-one-test.true
    (group_begun c.args.pairs.now _ _ group.items (pair_there c.args.pairs.now c.loop-one.one-index (0, 0) c.loop-one-test.true)
    (c.in_ok-from_slice.ensures.items ∙ c.as_slice.ensures))
    (ap seen_groups c.in_ok-push.ensures.items ∙ map_push (λ g. g.items) c.loop-one.groups.items group)
    c.loop-one.invariant

pub returns : goal.returns
returns c =
    all_grouped c.args.pairs.now (seen_groups c.loop-one.groups.items)
    (subst (λ i. AreGroupedTo c.args.pairs.now i (seen_groups c.loop-one.groups.items))
    (let over = c.loop-one-test.false in let within = c.loop-one.auto.one-index-end in omega (arith, over, within)) c.loop-one.invariant)

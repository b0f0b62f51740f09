-- What is left to show of `are_restricted`.
use Rattle.std.proofs.Common.{◌∙◌, sym, ap}
use Rattle.sourcewriting.specs.Grouping.{stand_in}
use Rattle.sourcewriting.proofs.Groups.{pair_in, restricted_there}
use Rattle.sourcewriting.proofs.grouping.are_restricted.Goals as goal

pub returns-then-stand_in : goal.returns-then-stand_in
returns-then-stand_in c = λ _.
    restricted_there c.args.groups.now c.loop-group.group-index c.group-item.result c.group-item.result c.args.one c.args.other
    c.loop-group-test.true c.group-item.is
    (pair_in c.group-item.result.items c.args.one c.args.other
    (ap (λ vs. stand_in vs c.args.one c.args.other) (sym c.as_slice.ensures.value) ∙ (sym c.stand_in.ensures ∙ c.if-stand_in.true)))

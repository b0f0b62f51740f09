use Rattle.std.proofs.Common.{◌∙◌, sym, ap, subst}
use Rattle.std.specs.List.{list_any}
use Rattle.leaving.specs.Leaving.{IsBlock}
use Rattle.arranging.specs.Sections.{moves}
use Rattle.arranging.proofs.Known.{parts_between}
use Rattle.arranging.proofs.checking.Checker.is_left_block.Goals as goal

pub returns-then-is_block-clause-left : goal.returns-then-is_block-clause-left
returns-then-is_block-clause-left c = λ e source old known holds.
    let between =
    c.in-Some.ensures.lookup.0.2
    ∙ parts_between e old c.args.self.now.parts.now known.known.parts_are c.args.first c.args.end in (
      subst IsBlock between (c.is_block.ensures c.if-is_block.true),
      ap (list_any moves) (sym between) ∙ (sym c.has_moving.ensures ∙ holds),
    )

use Rattle.std.proofs.Common.{sym, subst}
use Rattle.std.proofs.lemmas.List.Filters.{dedup_is}
use Rattle.bodystore.specs.Citing.{AreCitedSlots}
use Rattle.bodystore.proofs.CitedSlots.{are_cited}
use Rattle.bodystore.proofs.citing.cited_slots.Goals as goal

pub returns : goal.returns
returns c =
    subst (AreCitedSlots c.args.steps.now) (sym (dedup_is _ _ _ c.dedup.ensures.filtered))
    (are_cited c.args.steps.now c.in_ok-slots.slots.items c.sort_unstable.new.self.items c.in_ok-slots.ensures
    c.sort_unstable.ensures.permutation c.sort_unstable.ensures.sorted)

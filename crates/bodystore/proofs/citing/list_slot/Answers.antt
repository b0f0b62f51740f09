use Rattle.std.proofs.Common.{rules, ◌≡◌, true, false, get_or, subst, sym}
use Rattle.bodystore.specs.Listing.{AreSeen}
use Rattle.bodystore.proofs.CitedSlots.{listed_before, seen_more, seen_set}
use Rattle.bodystore.proofs.citing.list_slot.Goals as goal

pub returns-then-seen-slot-clause-listed : goal.returns-then-seen-slot-clause-listed
returns-then-seen-slot-clause-listed c =
    let seen : get_or c.args.seen.now c.args.slot false ≡ true = search rules in
    listed_before c.args.slots.now.items c.args.slot (c.requires c.args.slot seen)

pub returns-then-slot-seen-2-clause-seen : goal.returns-then-slot-seen-2-clause-seen
returns-then-slot-seen-2-clause-seen c =
    subst (AreSeen _) (sym c.in_ok-push.ensures.items) (seen_set c.args.seen.now c.args.slots.now.items c.args.slot c.requires)

pub returns-else-slot-seen-2-clause-seen : goal.returns-else-slot-seen-2-clause-seen
returns-else-slot-seen-2-clause-seen c =
    subst (AreSeen _) (sym c.in_ok-push.ensures.items) (seen_more c.args.seen.now c.args.slots.now.items c.args.slot c.requires)

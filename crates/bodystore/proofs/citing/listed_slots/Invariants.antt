use Rattle.std.proofs.Common.{take}
use Rattle.std.specs.List.{filter_map}
use Rattle.bodystore.specs.Listing.{AreSameSlots, AreSeen}
use Rattle.bodystore.proofs.CitedSlots.{cited_slot}
use Rattle.bodystore.proofs.citing.listed_slots.Given as goal

abbrev pub invariant-loop-step : goal.invariant-loop-step
invariant-loop-step l = AreSameSlots (filter_map cited_slot (take l.step-index l.steps)) l.slots.items × AreSeen l.seen.items l.slots.items

use Rattle.std.proofs.Common.{◌≡◌, ℕ, ◌+◌, List, Bool, Vec, Global, take, ap, subst, sym, ◌∙◌}
use Rattle.std.proofs.lemmas.List.{take_all, with_items_is}
use Rattle.std.specs.List.{filter_map}
use Rattle.bodystore.specs.declared.stored.StoredStep.TheVariants.{Float}
use Rattle.bodystore.specs.Listing.{AreSameSlots, AreSeen}
use Rattle.bodystore.proofs.CitedSlots.{cited_slot, cited_one, cited_none, cited_all, none_listed, none_seen}
use Rattle.bodystore.proofs.citing.listed_slots.Goals.{in-Slot+in_ok-list_slot, in_default}
use Rattle.bodystore.proofs.citing.listed_slots.Goals as goal

pub loop-step-init : goal.loop-step-init
loop-step-init c = (
  none_listed c.new-slots.ensures.items,
  none_seen c.new-slots.result.items c.seen_for.result (c.in_ok-seen.ensures.items_if_clones_equal (λ y e. e)),
)

pub loop-step-preserved : goal.loop-step-preserved
loop-step-preserved c =
    let i = c.loop-step.step-index in
    elim c.match-step.branch [
      | in-Slot+in_ok-list_slot w ↦
          let slots : c.match-step.slots.items ≡ w.list_slot.new.slots.items = ap (λ (v : Vec ℕ Global). v.items) w.slots-is in
          let seen : c.match-step.seen.items ≡ w.list_slot.new.seen = ap (λ (v : Vec Bool Global). v.items) w.seen-is
          ∙ with_items_is c.loop-step.seen w.list_slot.new.seen (w.list_slot.auto.seen ∙ w.deref_mut.ensures.len) in
          let told = w.in_ok-list_slot.ensures in (
            subst (AreSameSlots (filter_map cited_slot (take (i + 1) c.args.steps.now))) (sym slots)
                (cited_one c.args.steps.now i (Float 0) w.in-Slot.slot c.loop-step.slots.items w.list_slot.new.slots.items
                c.loop-step-test.true w.in-Slot.is c.loop-step.invariant.0 told.listed),
            subst (AreSeen c.match-step.seen.items) (sym slots)
                (subst (λ (l : List Bool). AreSeen l w.list_slot.new.slots.items) (sym seen) told.seen),
          )
      | in_default w ↦
          let slots : c.match-step.slots.items ≡ c.loop-step.slots.items = ap (λ (v : Vec ℕ Global). v.items) w.slots-is in
          let seen : c.match-step.seen.items ≡ c.loop-step.seen.items = ap (λ (v : Vec Bool Global). v.items) w.seen-is in
          let none = cited_none c.args.steps.now i (Float 0) c.loop-step-test.true w.in_default.not-Slot in (
            subst (AreSameSlots (filter_map cited_slot (take (i + 1) c.args.steps.now))) (sym slots)
                (subst (λ (l : List ℕ). AreSameSlots l c.loop-step.slots.items) (sym none) c.loop-step.invariant.0),
            subst (AreSeen c.match-step.seen.items) (sym slots)
                (subst (λ (l : List Bool). AreSeen l c.loop-step.slots.items) (sym seen) c.loop-step.invariant.1),
          )
    ]

pub returns : goal.returns
returns c =
    cited_all c.args.steps.now c.loop-step.slots.items
    (subst (λ (l : List _). AreSameSlots (filter_map cited_slot l) c.loop-step.slots.items)
    (take_all c.loop-step.step-index c.args.steps.now c.loop-step-test.false)
    c.loop-step.invariant.0)

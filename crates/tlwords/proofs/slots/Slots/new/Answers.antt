use Rattle.std.proofs.Common.{arith, ◌≡◌, [], replicate, subst, sym, ◌∙◌}
use Rattle.tlwords.specs.Runs.{IsBlank}
use Rattle.tlwords.specs.Entries.{slots_of, slot_at, IsIndexed}
use Rattle.tlwords.proofs.Entries.{map_length, zeros_filled, zeros_wiped, wiped_indexed, wiped_blank}
use Rattle.tlwords.proofs.slots.Slots.new.Goals as goal

pub invariant_of-result : goal.invariant_of-result
invariant_of-result c =
    let n = c.args.cells in
    let ps = c.resize.new.self.items in
    let zeros : ps ≡ replicate n 0 = c.in_ok-resize.ensures.items ∙ zeros_filled n _ _ c.new-places.ensures.items
    c.new-places.ensures.len in
    let long = c.in_ok-resize.ensures.len in
    let ok = c.resize.new.self.ok.0 in
    let room = c.in_ok-entries.ensures.capacity in
    let few = c.requires in (
      subst (λ es. IsIndexed ps es) (sym c.in_ok-entries.ensures.items)
          (subst (λ xs. IsIndexed xs []) (sym zeros) (wiped_indexed _ _ (zeros_wiped n))),
      omega arith,
      omega arith,
    )

pub returns : goal.returns
returns c =
    let n = c.args.cells in
    let ps = c.resize.new.self.items in
    let es = c.in_ok-entries.entries.items in
    let zeros : ps ≡ replicate n 0 = c.in_ok-resize.ensures.items ∙ zeros_filled n _ _ c.new-places.ensures.items
    c.new-places.ensures.len in
    let long = c.in_ok-resize.ensures.len in
    let ok = c.resize.new.self.ok.0 in
    let size = map_length (slot_at es) ps in (
      omega arith,
      subst (λ xs. IsBlank (slots_of ps xs)) (sym c.in_ok-entries.ensures.items)
          (subst (λ xs. IsBlank (slots_of xs [])) (sym zeros) (wiped_blank _ _ (zeros_wiped n))),
    )

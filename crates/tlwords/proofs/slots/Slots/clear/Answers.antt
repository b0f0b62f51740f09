use Rattle.std.proofs.Common.{arith, ◌≡◌, ◌≤◌, ◌<◌, ◌^◌, length, subst, sym, ap, ◌∙◌}
use Rattle.std.specs.Vec.{vec_capacity}
use Rattle.std.proofs.lemmas.List.{take_at}
use Rattle.tlwords.specs.Runs.{IsBlank}
use Rattle.tlwords.specs.Entries.{slots_of, IsIndexed}
use Rattle.tlwords.proofs.Entries.{wiped_indexed, wiped_blank}
use Rattle.tlwords.proofs.slots.Slots.clear.Goals as goal

pub invariant_of-self : goal.invariant_of-self
invariant_of-self c =
    let s = c.self.inside in
    let i = c.self.invariant in
    let now = c.wipe.new.places in
    let long : length now ≡ length s.places.items = c.wipe.ensures.0 ∙ ap length c.as_mut_slice.ensures.value in
    let size : length now ≡ s.places.len = long ∙ sym s.places.ok.0 in
    let room = c.clear.ensures.capacity in
    subst (λ ps. IsIndexed ps c.clear.new.self.items × (length ps ≤ vec_capacity c.clear.new.self) × (length ps < 2 ^ 32))
    (sym (take_at now _ s.places.len size)) (
      subst (IsIndexed now) (sym c.clear.ensures.items) (wiped_indexed _ now c.wipe.ensures),
      (let a = i.1 in omega arith),
      (let a = i.2 in omega arith),
    )

pub returns-clause-blank : goal.returns-clause-blank
returns-clause-blank c =
    let s = c.self.inside in
    let now = c.wipe.new.places in
    let long : length now ≡ length s.places.items = c.wipe.ensures.0 ∙ ap length c.as_mut_slice.ensures.value in
    let size : length now ≡ s.places.len = long ∙ sym s.places.ok.0 in
    subst (λ ps. IsBlank (slots_of ps c.clear.new.self.items)) (sym (take_at now _ s.places.len size))
    (subst (λ es. IsBlank (slots_of now es)) (sym c.clear.ensures.items) (wiped_blank _ now c.wipe.ensures))

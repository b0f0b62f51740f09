use Rattle.std.proofs.Common.{◌≡◌, length, map, subst, sym, ap, ◌∙◌}
use Rattle.std.proofs.lemmas.List.{take_at}
use Rattle.tlwords.specs.Commits.{HasForgotten}
use Rattle.tlwords.specs.Entries.{slots_of, unwritten, IsIndexed}
use Rattle.tlwords.proofs.Entries.{map_length, unwritten_indexed, forgotten}
use Rattle.tlwords.proofs.slots.Slots.forget.Goals as goal

pub invariant_of-self : goal.invariant_of-self
invariant_of-self c =
    let s = c.self.inside in
    let i = c.self.invariant in
    let now = c.drop_values.new.entries in
    let is : now ≡ map unwritten s.entries.items = c.drop_values.ensures ∙ ap (map unwritten) c.as_mut_slice.ensures.value in
    let size : length now ≡ s.entries.len = ap length is ∙ (map_length unwritten s.entries.items ∙ sym s.entries.ok.0) in (
      subst (IsIndexed s.places.items) (sym (take_at now _ s.entries.len size ∙ is))
          (unwritten_indexed s.places.items s.entries.items i.0),
      i.1,
      i.2,
    )

pub returns : goal.returns
returns c =
    let s = c.self.inside in
    let now = c.drop_values.new.entries in
    let is : now ≡ map unwritten s.entries.items = c.drop_values.ensures ∙ ap (map unwritten) c.as_mut_slice.ensures.value in
    let size : length now ≡ s.entries.len = ap length is ∙ (map_length unwritten s.entries.items ∙ sym s.entries.ok.0) in
    subst (λ es. HasForgotten c.args.self.now (slots_of s.places.items es)) (sym (take_at now _ s.entries.len size ∙ is))
    (subst (λ x. HasForgotten x (slots_of s.places.items (map unwritten s.entries.items))) c.self.view_is
    (forgotten s.places.items s.entries.items))
